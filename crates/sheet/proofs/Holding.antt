-- "Bodies come next in table order, no gap, the last ending the sheet": in a sound sheet, each entry that lookup finds has a
-- length of its kind, and its body lies inside the sheet. The theorem is `held`.
use mathlib.Core.Path.{◌≡◌, sym, ◌∙◌, subst}
use mathlib.Core.Bool.{true}
use mathlib.Core.List.{List}
use Rattle.std.specs.Prelude.{Some}
use Prim.Native.Nat.{ℕ, zero, suc, ◌+◌, ◌≤◌, ◌<◌}
use native.Mathlib.Omega.{arith}
use lib.ListN.{length, drop, length-drop}
use lib.Seq.{length-take-le}
use borrow.Author.Tests.{eqb-true}
use Rattle.sheet.specs.declared.Entry.{Entry}
use Rattle.sheet.specs.declared.Form.{Form}
use Rattle.sheet.specs.declared.Shape.{Shape}
use Rattle.sheet.specs.declared.Shape.TheVariants.{Input, Stack, Balance, Meter}
use Rattle.sheet.specs.Walk.{sum}
use Rattle.sheet.specs.Sheet.{entry_at, count, lengths_to, body_at, length_fits, entry_fits, fits_at, sound_as, stack_form, balance_form, meter_form, table, lookup, part_of}
use Rattle.std.proofs.lemmas.Bool.{and_parts}
use Rattle.sheet.proofs.Tables.{all_at, sum_rise, sum_step}
use Rattle.sheet.proofs.Finding.{Stands, found_stands}
use Rattle.sheet.proofs.Forms.{IsField, Formed, formed_so}

-- an entry with a length of its kind, whose body starts at `at`
pub record Fits (e : Entry) (at : ℕ) : Type 0 where
  pub long : length_fits e.kind e.len ≡ true
  pub place : e.offset ≡ at

-- what soundness says in every shape
pub record Whole (s : List ℕ) : Type 0 where
  pub each : (k : ℕ) → k < count s → Fits (entry_at s k) (body_at s k)
  pub ends : body_at s (count s) ≡ length s

entry_so : (e : Entry) (last at : ℕ) → entry_fits e last at ≡ true → Fits e at
entry_so e last at h =
    let p = and_parts _ _ h in
    record { long = (and_parts _ _ p.0).1; place = eqb-true _ _ p.1 }

input_whole : (s : List ℕ) → sound_as Input s ≡ true → Whole s
unfolding sound_as
input_whole s h =
    let p = and_parts _ _ h in
    record { each = λ k lt. entry_so _ _ _ (all_at (fits_at s) k (count s) lt p.0); ends = eqb-true _ _ p.1 }

field_fits : (e : Entry) (name kind at place : ℕ) → IsField e name kind at → at ≡ place → Fits e place
field_fits e name kind at place f q = record { long = rw f.kinded f.long; place = f.place ∙ q }

pub form_whole : (f : Form) (s : List ℕ) → Formed f s → Whole s
unfolding sum
form_whole f s w = record { each = each; ends = rw w.counted (omega (arith, w.ends)) }
  where
    each : (k : ℕ) → k < count s → Fits (entry_at s k) (body_at s k)
    each zero h = field_fits _ _ _ _ _ w.first (omega (arith, w.counted))
    each (suc zero) h = field_fits _ _ _ _ _ w.second (omega (arith, w.counted))
    each (suc (suc zero)) h = field_fits _ _ _ _ _ w.third (omega (arith, w.counted))
    each (suc (suc (suc k))) h = absurd (omega (arith, w.counted))

pub whole_so : (shape : Shape) (s : List ℕ) → sound_as shape s ≡ true → Whole s
unfolding sound_as
whole_so Input s h = input_whole s h
whole_so Stack s h = form_whole stack_form s (formed_so stack_form s h)
whole_so Balance s h = form_whole balance_form s (formed_so balance_form s h)
whole_so Meter s h = form_whole meter_form s (formed_so meter_form s h)

-- an entry's body lies inside the sheet, whole
pub record Inside (s : List ℕ) (e : Entry) : Type 0 where
  pub upto : e.offset + e.len ≤ length s
  pub whole : length (part_of s e) ≡ e.len

pub inside : (s : List ℕ) (k : ℕ) → Whole s → k < count s → Inside s (entry_at s k)
inside s k w h =
    let e : Entry = entry_at s k in
    let rise : lengths_to s (k + 1) ≤ lengths_to s (count s) = sum_rise (λ j. (entry_at s j).len) (k + 1) (count s) (omega arith) in
    let upto : e.offset + e.len ≤ length s = omega (arith, (w.each k h).place, w.ends, sum_step (λ j. (entry_at s j).len) k) in
    record { upto = upto; whole = length-take-le e.len (drop e.offset s) (rw length-drop (omega arith)) }

-- what a rule may take of an entry that is found
pub record Held (s : List ℕ) (e : Entry) : Type 0 where
  pub long : length_fits e.kind e.len ≡ true
  pub within : Inside s e

-- THE THEOREM
pub held : (shape : Shape) (s : List ℕ) (name : ℕ) (e : Entry) → sound_as shape s ≡ true → lookup name (table s) ≡ Some e → Held s e
held shape s name e sound found =
    let w : Whole s = whole_so shape s sound in
    let st : Stands s name (count s) e = found_stands s name e found in
    subst (λ (x : Entry). Held s x) (sym st.here)
    record { long = (w.each st.k st.below).long; within = inside s st.k w st.below }
