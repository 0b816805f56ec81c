-- The walk of a reader over an input's table: where it stands after k entries found sound, and what it says at its end. The theorems
-- are `keeps_its_offset` and `starts_there`.
use mathlib.Core.Path.{◌≡◌, refl, sym, ap, ◌∙◌, subst}
use mathlib.Core.Bool.{Bool, true, false, cond, ◌&&◌}
use mathlib.Core.Logic.{⊎_elim}
use mathlib.Core.List.{List}
use Rattle.std.specs.Prelude.{Option, Some, None}
use Rattle.std.specs.Borrow.{Bor}
use Prim.Native.Nat.{ℕ, zero, suc, ◌+◌, ◌*◌, ◌≤◌, ◌<◌}
use native.Mathlib.Nat.{eq-or-lt_of_le}
use native.Mathlib.Numerals.{add-one}
use native.Mathlib.Omega.{arith}
use lib.ListN.{length}
use lib.Dec.{eqb}
use borrow.Author.Tests.{eqb-true, ltb-true, lt-ltb, le-ltb}
use Rattle.std.proofs.lemmas.Bool.{and_parts}
use Rattle.sheet.specs.declared.Entry.{Entry}
use Rattle.sheet.specs.declared.reader.Reader.{Reader}
use Rattle.sheet.specs.declared.Shape.TheVariants.{Input}
use Rattle.sheet.specs.Walk.{every, sum, prior}
use Rattle.sheet.specs.Sheet.{fits_at, entry_at, count, lengths_to, body_at, name_before, entries_fit, sound_as}
use Rattle.sheet.specs.Reading.{fitting_at, reader_of, next_fitting, behind, reader_after, at_end}
use Rattle.sheet.proofs.Tables.{all_step, all_stays, prior_step}

abbrev before : Bor (List ℕ) → ℕ → ℕ → Reader
before s k at = record { sheet = s; next = k; at = at }

-- THE THEOREM: after k entries found sound the reader's place is 1 + 6n plus the lengths of their bodies
pub keeps_its_offset : (s : Bor (List ℕ)) (k : ℕ) → k ≤ count s.now → entries_fit s.now k ≡ true
    → reader_after s k ≡ record { sheet = s; next = k; at = 1 + 6 * count s.now + lengths_to s.now k }
unfolding reader_after every sum
keeps_its_offset s zero h f = ap (before s 0) (omega arith)
keeps_its_offset s (suc k) h f =
    let p = and_parts _ _ f in
    rw (keeps_its_offset s k (omega arith) p.0, lt-ltb k (count s.now) (omega arith), p.1, add-one) (ap (before s (suc k)) (omega arith))

-- what a value that is given on a test says of it, and what none says
some_so : {A : Type 0} {x y : A} (b : Bool) → cond b (Some x) None ≡ Some y → (b ≡ true) × (y ≡ x)
some_so true h = (refl, cc)
some_so false h = absurd cc

none_so : {A : Type 0} (x : A) (b : Bool) → cond b (Some x) None ≡ None → b ≡ false
none_so x true h = absurd cc
none_so x false h = refl

-- AND THERE the body starts: of any reader, an entry that it finds to fit has its body exactly at its place
pub starts_there : (r : Reader) (last : ℕ) (e : Entry) → next_fitting r last ≡ Some e → e.offset ≡ r.at
starts_there r last e h =
    let p = some_so _ h in
    ap (λ (x : Entry). x.offset) p.1 ∙ eqb-true _ _ (and_parts _ _ (and_parts _ _ p.0).1).1

-- What the walk of an input holds: its reader is the one after so many steps, each over an entry found sound
pub record Walked (s : List ℕ) (r : Reader) (last : ℕ) : Type 0 where
  pub reads : r.sheet.now ≡ s
  pub within : r.next ≤ count r.sheet.now
  pub after : r ≡ reader_after r.sheet r.next
  pub above : last ≡ name_before r.sheet.now r.next
  pub fit : entries_fit r.sheet.now r.next ≡ true

pub walk_start : (s : Bor (List ℕ)) → Walked s.now (reader_of s) 0
unfolding reader_after prior every
walk_start s = record { reads = refl; within = omega arith; after = refl; above = refl; fit = refl }

module _ (s : List ℕ) (r : Reader) (last : ℕ) (w : Walked s r last) where
  abbrev t : List ℕ
  t = r.sheet.now

  abbrev k : ℕ
  k = r.next

  stands : r ≡ before r.sheet k (body_at t k)
  stands = w.after ∙ keeps_its_offset r.sheet k w.within w.fit

  found : next_fitting r last ≡ fitting_at t k (name_before t k) (body_at t k)
  found = ap (λ (x : Reader). next_fitting x last) stands ∙ ap (λ l. fitting_at t k l (body_at t k)) w.above

  one_more : behind r (next_fitting r last) ≡ reader_after r.sheet (k + 1)
  unfolding reader_after
  one_more = rw (add-one, w.above) (ap (λ (x : Reader). behind x (next_fitting x (name_before t x.next))) w.after)

  pub walk_turn : (e : Entry) → next_fitting r last ≡ Some e → Walked s (behind r (next_fitting r last)) e.name
  walk_turn e h =
      let p = some_so _ (sym found ∙ h) in
      let q = and_parts _ _ p.0 in
      let below : k < count t = ltb-true k (count t) q.0 in
      subst (λ (x : Option Entry). Walked s (behind r x) e.name) (sym h)
      record {
        reads = w.reads;
        within = omega arith;
        after = ap (behind r) (sym h) ∙ one_more;
        above = ap (λ (x : Entry). x.name) p.1 ∙ sym (prior_step (λ j. (entry_at t j).name) k);
        fit = all_step (fits_at t) k ∙ rw (w.fit, q.1) refl;
      }

  -- Where the reader stays the walk ends. Behind the last entry the sheet is sound where the next body would start at its end; before
  -- any other it is torn
  pub walk_end : next_fitting r last ≡ None → at_end (behind r (next_fitting r last)) ≡ sound_as Input s
  unfolding sound_as
  walk_end h = rw h (ap at_end stands ∙ ⊎_elim ended torn (eq-or-lt_of_le w.within) ∙ ap (sound_as Input) w.reads)
    where
      ended : k ≡ count t → at_end (before r.sheet k (body_at t k)) ≡ sound_as Input t
      ended q =
          let all : entries_fit t (count t) ≡ true = subst (λ j. entries_fit t j ≡ true) q w.fit in
          rw (le-ltb k (count t) (omega arith), all) (ap (λ j. eqb (body_at t j) (length t)) q)

      torn : k < count t → at_end (before r.sheet k (body_at t k)) ≡ sound_as Input t
      torn lt =
          let here = lt-ltb k (count t) lt in
          let unfit : fits_at t k ≡ false = ap (λ b. b && fits_at t k) (sym here) ∙ none_so _ _ (sym found ∙ h) in
          rw (here, all_stays (fits_at t) (k + 1) (count t) (omega arith) (all_step (fits_at t) k ∙ rw w.fit unfit)) refl
