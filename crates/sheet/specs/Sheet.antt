-- Document 01, section "Sheets": byte 0 is the entry count n; n six-byte entries follow: name, kind, offset, length (16 bits,
-- little-endian); bodies come next in table order with no gap, the last ending the sheet. Names strictly rise.
-- Every reading is total: a byte past the end counts as 0, a part past the end is what is there.
use Rattle.std.specs.Prelude.{Bool, false, cond, ◌&&◌, List, [], ◌∷◌, Option, Some, None, ℕ, zero, suc, ◌+◌, ◌*◌, length, get_or, take, drop, eqb, leb, ltb}
use Rattle.sheet.specs.Walk.{every, sum, prior}
use Rattle.sheet.specs.declared.Entry.{Entry}
use Rattle.sheet.specs.declared.Form.{Form}
use Rattle.sheet.specs.declared.Shape.{Shape}
use Rattle.sheet.specs.declared.Shape.TheVariants.{Input, Stack, Balance, Meter}
use Rattle.sheet.specs.declared.State.{State}

abbrev pub u16_at : List ℕ → ℕ → ℕ
u16_at s i = get_or s i 0 + 256 * get_or s (i + 1) 0

-- the number of entries
abbrev pub count : List ℕ → ℕ
count s = get_or s 0 0

-- entry k of the table
unfoldable pub entry_at : List ℕ → ℕ → Entry
entry_at s k =
    let p : ℕ = 1 + 6 * k in
    record { name = get_or s p 0; kind = get_or s (p + 1) 0; offset = u16_at s (p + 2); len = u16_at s (p + 4) }

-- text: 0 to 256 bytes; a value that is no string: none; amount: 17
abbrev pub length_fits : ℕ → ℕ → Bool
length_fits kind n = cond (eqb kind 1) (leb n 256) (cond (eqb kind 2) (eqb n 0) (cond (eqb kind 3) (eqb n 17) false))

-- INPUT. "An input sheet uses kinds 1 and 2", under any of the ten names; "other names or kinds break the layout"
abbrev pub input_allowed : ℕ → ℕ → Bool
input_allowed name kind = leb 1 name && leb name 10 && leb 1 kind && leb kind 2

-- the lengths of the first k bodies together
abbrev pub lengths_to : List ℕ → ℕ → ℕ
lengths_to s = sum (λ k. (entry_at s k).len)

-- where body k starts: behind the table and the k bodies before it
abbrev pub body_at : List ℕ → ℕ → ℕ
body_at s k = 1 + 6 * count s + lengths_to s k

-- the name before entry k's, 0 before the first
abbrev pub name_before : List ℕ → ℕ → ℕ
name_before s = prior (λ k. (entry_at s k).name)

-- an entry above the name `last`, whose body must start at `at`
abbrev pub entry_fits : Entry → ℕ → ℕ → Bool
entry_fits e last at = ltb last e.name && input_allowed e.name e.kind && length_fits e.kind e.len && eqb e.offset at

-- entry k fits, and the first k entries do
abbrev pub fits_at : List ℕ → ℕ → Bool
fits_at s k = entry_fits (entry_at s k) (name_before s k) (body_at s k)

abbrev pub entries_fit : List ℕ → ℕ → Bool
entries_fit s = every (fits_at s)

-- STATE. "A state sheet is a stack (1 and 2 text, 3 amount), a balance (1 and 2 text, 4 amount) or a meter (1 text, 5 and 6
-- amounts)": 1, a text, in each; then the name `second` of kind `kind`, and the name `third`, an amount
abbrev pub stack_form : Form
stack_form = record { second = 2; kind = 1; third = 3 }

abbrev pub balance_form : Form
balance_form = record { second = 2; kind = 1; third = 4 }

abbrev pub meter_form : Form
meter_form = record { second = 5; kind = 3; third = 6 }

-- an entry of that name and kind, with a length of the kind, whose body starts at `at`
unfoldable pub is_field : Entry → ℕ → ℕ → ℕ → Bool
is_field e name kind at = eqb e.name name && eqb e.kind kind && length_fits kind e.len && eqb e.offset at

-- exactly three entries, the form's fields in their order: the first body starts behind the table, at 19, the others each behind
-- the one before, and the last ends the sheet
unfoldable pub is_form : Form → List ℕ → Bool
is_form f s =
    let x : Entry = entry_at s 0 in
    let y : Entry = entry_at s 1 in
    let z : Entry = entry_at s 2 in
    eqb (count s) 3
    && is_field x 1 1 19
    && is_field y f.second f.kind (19 + x.len)
    && is_field z f.third 3 (19 + x.len + y.len)
    && eqb (19 + x.len + y.len + z.len) (length s)

-- SOUND. An input's entries fit, and its last body ends the sheet; no bytes are no input, since the first body would start at 1. A
-- state has its form
unfoldable pub sound_as : Shape → List ℕ → Bool
sound_as Input s = entries_fit s (count s) && eqb (body_at s (count s)) (length s)
sound_as Stack s = is_form stack_form s
sound_as Balance s = is_form balance_form s
sound_as Meter s = is_form meter_form s

-- no bytes are an absent state; else a stack, a balance or a meter
abbrev pub state_of : List ℕ → State
state_of s =
    cond (eqb (length s) 0) State.Absent
    (cond (sound_as Stack s) State.Stack
    (cond (sound_as Balance s) State.Balance
    (cond (sound_as Meter s) State.Meter State.Torn)))

-- m entries from entry k on
unfoldable pub entries_from : List ℕ → ℕ → ℕ → List Entry
entries_from s k zero = []
entries_from s k (suc m) = entry_at s k ∷ entries_from s (k + 1) m

-- the entries of a sheet
abbrev pub table : List ℕ → List Entry
table s = entries_from s 0 (count s)

-- the first entry of that name
unfoldable pub lookup : ℕ → List Entry → Option Entry
lookup name [] = None
lookup name (e ∷ es) = cond (eqb e.name name) (Some e) (lookup name es)

-- an entry's body is a part of the sheet itself
abbrev pub part_of : List ℕ → Entry → List ℕ
part_of s e = take e.len (drop e.offset s)

abbrev pub body_of : List ℕ → Option Entry → List ℕ
body_of s (Some e) = part_of s e
body_of s None = []
