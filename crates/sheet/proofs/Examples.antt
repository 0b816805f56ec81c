-- Document 01's section "Sheets" on worked sheets, by computation.
use mathlib.Core.Path.{◌≡◌, refl}
use mathlib.Core.Bool.{true, false}
use mathlib.Core.List.{List, [], ◌∷◌, map}
use Prim.Native.Nat.{ℕ}
use Rattle.sheet.specs.declared.Shape.TheVariants.{Input}
use Rattle.sheet.specs.declared.State.TheVariants as State
use Rattle.sheet.specs.Walk.{every, sum, prior}
use Rattle.sheet.specs.Sheet.{entry_at, is_field, is_form, sound_as, state_of, entries_from, lookup}
use Rattle.sheet.specs.Amounts.{amount_at}
use Rattle.sheet.specs.Reading.{reader_after}
use Rattle.sheet.specs.declared.reader.Reader.{Reader}
use Rattle.sheet.specs.Fields.{field, absent, text, figure, other}

-- document 01's first open: subject `N1`, unit `rd`, balance `5`, all texts
abbrev opened : List ℕ
opened = 3 ∷ 1 ∷ 1 ∷ 19 ∷ 0 ∷ 2 ∷ 0 ∷ 2 ∷ 1 ∷ 21 ∷ 0 ∷ 2 ∷ 0 ∷ 4 ∷ 1 ∷ 23 ∷ 0 ∷ 1 ∷ 0 ∷ 78 ∷ 49 ∷ 114 ∷ 100 ∷ 53 ∷ []

-- the unit's body starts one byte late
abbrev gap : List ℕ
gap = 2 ∷ 1 ∷ 1 ∷ 13 ∷ 0 ∷ 1 ∷ 0 ∷ 2 ∷ 1 ∷ 15 ∷ 0 ∷ 1 ∷ 0 ∷ 65 ∷ 66 ∷ 67 ∷ []

-- a name twice
abbrev twice : List ℕ
twice = 2 ∷ 2 ∷ 1 ∷ 13 ∷ 0 ∷ 1 ∷ 0 ∷ 2 ∷ 1 ∷ 14 ∷ 0 ∷ 1 ∷ 0 ∷ 65 ∷ 66 ∷ []

-- a value that is no string, whose empty body is one byte late
abbrev late : List ℕ
late = 1 ∷ 7 ∷ 2 ∷ 8 ∷ 0 ∷ 0 ∷ 0 ∷ []

-- the same at its place
abbrev placed : List ℕ
placed = 1 ∷ 7 ∷ 2 ∷ 7 ∷ 0 ∷ 0 ∷ 0 ∷ []

-- the balance of `N1` in `rd`, 1.2 with scale 1
abbrev pub held : List ℕ
held = 3 ∷ 1 ∷ 1 ∷ 19 ∷ 0 ∷ 2 ∷ 0 ∷ 2 ∷ 1 ∷ 21 ∷ 0 ∷ 2 ∷ 0 ∷ 4 ∷ 3 ∷ 23 ∷ 0 ∷ 17 ∷ 0 ∷ 78 ∷ 49 ∷ 114 ∷ 100
    ∷ 12 ∷ 0 ∷ 0 ∷ 0 ∷ 0 ∷ 0 ∷ 0 ∷ 0 ∷ 0 ∷ 0 ∷ 0 ∷ 0 ∷ 0 ∷ 0 ∷ 0 ∷ 0 ∷ 1 ∷ []

inputs : map (sound_as Input) ([] ∷ (0 ∷ []) ∷ opened ∷ gap ∷ twice ∷ late ∷ placed ∷ held ∷ []) ≡ false ∷ true ∷ true ∷ false ∷ false ∷ false ∷ true ∷ false ∷ []
unfolding sound_as every entry_at sum prior
inputs = refl

states : map state_of ([] ∷ (0 ∷ []) ∷ opened ∷ held ∷ []) ≡ State.Absent ∷ State.Torn ∷ State.Torn ∷ State.Balance ∷ []
unfolding sound_as is_form is_field entry_at
states = refl

-- where a reader stands after so many steps, and its place: behind each entry that fits; before a name that stands twice, and before a
-- body that is a byte late, it stays
steps : List ℕ → List (ℕ × ℕ)
steps s = map (λ k. let r : Reader = reader_after (record { ref_ptr = (0, 0); now = s }) k in (r.next, r.at)) (0 ∷ 1 ∷ 2 ∷ 3 ∷ 4 ∷ 5 ∷ [])

stands : map steps (opened ∷ twice ∷ late ∷ placed ∷ [])
    ≡ ((0, 19) ∷ (1, 21) ∷ (2, 23) ∷ (3, 24) ∷ (3, 24) ∷ (3, 24) ∷ [])
    ∷ ((0, 13) ∷ (1, 14) ∷ (1, 14) ∷ (1, 14) ∷ (1, 14) ∷ (1, 14) ∷ [])
    ∷ ((0, 7) ∷ (0, 7) ∷ (0, 7) ∷ (0, 7) ∷ (0, 7) ∷ (0, 7) ∷ [])
    ∷ ((0, 7) ∷ (1, 7) ∷ (1, 7) ∷ (1, 7) ∷ (1, 7) ∷ (1, 7) ∷ [])
    ∷ []
unfolding steps reader_after entry_at sum prior
stands = refl

texts : map (field opened) (1 ∷ 2 ∷ 4 ∷ 7 ∷ []) ≡ text (78 ∷ 49 ∷ []) ∷ text (114 ∷ 100 ∷ []) ∷ text (53 ∷ []) ∷ absent ∷ []
unfolding field lookup entries_from entry_at
texts = refl

values : map (field placed) (7 ∷ 1 ∷ []) ≡ other ∷ absent ∷ []
unfolding field lookup entries_from entry_at
values = refl

amounts : field held 4 ≡ figure (record { mantissa = record { hi = 0; lo = 12 }; scale = 1 })
unfolding field lookup entries_from entry_at amount_at
amounts = refl
