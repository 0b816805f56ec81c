-- "A state sheet is a stack (1 and 2 text, 3 amount), a balance (1 and 2 text, 4 amount) or a meter (1 text, 5 and 6 amounts)":
-- a sound state has exactly its three fields, and is of one kind. The theorems are `stack_has`, `balance_has`, `meter_has`
-- and `stack_is`, `balance_is`, `meter_is`.
use mathlib.Core.Path.{◌≡◌, refl, ◌∙◌}
use mathlib.Core.Bool.{Bool, true, false, cond}
use mathlib.Core.List.{List, [], ◌∷◌}
use Rattle.std.specs.Prelude.{Option, Some}
use Prim.Native.Nat.{ℕ, ◌≤◌, ◌<◌}
use native.Mathlib.Omega.{arith}
use lib.ListN.{length}
use lib.Dec.{eqb}
use borrow.Author.Tests.{eqb-true, leb-true, ne_eqb}
use Rattle.sheet.specs.declared.Entry.{Entry}
use Rattle.sheet.specs.declared.Form.{Form}
use Rattle.sheet.specs.declared.Shape.{Shape}
use Rattle.sheet.specs.declared.Shape.TheVariants.{Stack, Balance, Meter}
use Rattle.sheet.specs.declared.State.TheVariants as State
use Rattle.sheet.specs.Sheet.{entry_at, length_fits, sound_as, state_of, entries_from, table, lookup, part_of, stack_form, balance_form, meter_form}
use Rattle.sheet.specs.Amounts.{amount_at}
use Rattle.sheet.specs.Fields.{text, figure, field_of_kind, field_of, field, three}
use Rattle.sheet.proofs.Forms.{IsField, Formed, formed_so, third_is, no_stack, no_balance}
use Rattle.sheet.proofs.Holding.{form_whole, whole_so, inside}

-- the view of a table of three entries
choose : (s : List ℕ) (b : Bool) (e : Entry) (r : Option Entry) → field_of s (cond b (Some e) r) ≡ cond b (field_of s (Some e)) (field_of s r)
choose s true e r = refl
choose s false e r = refl

pub three_fields : (s : List ℕ) (a b c : Entry) → table s ≡ a ∷ b ∷ c ∷ [] → (name : ℕ)
    → field s name ≡ three a.name (field_of s (Some a)) b.name (field_of s (Some b)) c.name (field_of s (Some c)) name
unfolding field lookup
three_fields s a b c e name = rw (e, choose s (eqb a.name name), choose s (eqb b.name name), choose s (eqb c.name name))

-- what a state of a form holds: a text x, a body y of the form's kind and an amount z, and no other field
pub record Three (s : List ℕ) (f : Form) : Type 0 where
  pub x : List ℕ
  pub y : List ℕ
  pub z : List ℕ
  pub fields : (name : ℕ) → field s name ≡ three 1 (text x) f.second (field_of_kind f.kind y) f.third (figure (amount_at z 0)) name
  pub x_fits : length x ≤ 256
  pub y_fits : length_fits f.kind (length y) ≡ true
  pub z_fits : length z ≡ 17

module _ (f : Form) (s : List ℕ) (w : Formed f s) where
  entries : table s ≡ entry_at s 0 ∷ entry_at s 1 ∷ entry_at s 2 ∷ []
  unfolding entries_from
  entries = rw w.counted

  -- a field's body is whole
  body_fits : (k name kind at : ℕ) → k < 3 → IsField (entry_at s k) name kind at → length_fits kind (length (part_of s (entry_at s k))) ≡ true
  body_fits k name kind at h g = rw (inside s k (form_whole f s w) (omega (arith, w.counted))).whole g.long

  has : Three s f
  has =
      let a = w.first in
      let b = w.second in
      let c = w.third in
      record {
        x = part_of s (entry_at s 0);
        y = part_of s (entry_at s 1);
        z = part_of s (entry_at s 2);
        fields = λ name. three_fields s _ _ _ entries name ∙ rw (a.named, b.named, c.named, a.kinded, b.kinded, c.kinded);
        x_fits = leb-true _ 256 (body_fits 0 _ _ _ (omega arith) a);
        y_fits = body_fits 1 _ _ _ (omega arith) b;
        z_fits = eqb-true _ 17 (body_fits 2 _ _ _ (omega arith) c);
      }

-- a sound sheet is not absent
filled : (shape : Shape) (s : List ℕ) → sound_as shape s ≡ true → eqb (length s) 0 ≡ false
filled shape s h = ne_eqb (length s) 0 (omega (arith, (whole_so shape s h).ends))

-- THE THREE STATES have exactly their three fields, and THE KIND of a state is the one it is sound as
module _ (s : List ℕ) where
  pub stack_has : sound_as Stack s ≡ true → Three s stack_form
  unfolding sound_as
  stack_has h = has stack_form s (formed_so stack_form s h)

  pub balance_has : sound_as Balance s ≡ true → Three s balance_form
  unfolding sound_as
  balance_has h = has balance_form s (formed_so balance_form s h)

  pub meter_has : sound_as Meter s ≡ true → Three s meter_form
  unfolding sound_as
  meter_has h = has meter_form s (formed_so meter_form s h)

  pub stack_is : sound_as Stack s ≡ true → state_of s ≡ State.Stack
  stack_is h = rw (filled Stack s h, h)

  pub balance_is : sound_as Balance s ≡ true → state_of s ≡ State.Balance
  unfolding sound_as
  balance_is h =
      let t = third_is balance_form s (formed_so balance_form s h) in
      rw (filled Balance s h, no_stack s (omega (arith, t)), h)

  pub meter_is : sound_as Meter s ≡ true → state_of s ≡ State.Meter
  unfolding sound_as
  meter_is h =
      let t = third_is meter_form s (formed_so meter_form s h) in
      rw (filled Meter s h, no_stack s (omega (arith, t)), no_balance s (omega (arith, t)), h)

  -- back, of a meter
  pub meter_sound : state_of s ≡ State.Meter → sound_as Meter s ≡ true
  meter_sound = go (eqb (length s) 0) (sound_as Stack s) (sound_as Balance s) (sound_as Meter s)
    where
      go : (a b c d : Bool) → cond a State.Absent (cond b State.Stack (cond c State.Balance (cond d State.Meter State.Torn))) ≡ State.Meter → d ≡ true
      go a b c true h = refl
      go true b c false h = let z : ◌≡◌ {A = ℕ} 0 1 = cc in absurd (omega arith)
      go false true c false h = let z : ◌≡◌ {A = ℕ} 0 1 = cc in absurd (omega arith)
      go false false true false h = let z : ◌≡◌ {A = ℕ} 0 1 = cc in absurd (omega arith)
      go false false false false h = let z : ◌≡◌ {A = ℕ} 0 1 = cc in absurd (omega arith)
