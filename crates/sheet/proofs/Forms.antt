-- What the test of a state's form says: its three fields, one by one. `no_stack`, `no_balance` and `no_meter` say by which name a
-- form is known.
use mathlib.Core.Path.{◌≡◌}
use mathlib.Core.Bool.{true, false}
use mathlib.Core.Logic.{◌≢◌}
use mathlib.Core.List.{List}
use Prim.Native.Nat.{ℕ, ◌+◌, ◌<◌}
use native.Mathlib.Omega.{arith}
use lib.ListN.{length, get_or}
use borrow.Author.Tests.{eqb-true, eq-eqb}
use Rattle.sheet.specs.declared.Entry.{Entry}
use Rattle.sheet.specs.declared.Form.{Form}
use Rattle.sheet.specs.declared.Shape.TheVariants.{Stack, Balance, Meter}
use Rattle.sheet.specs.Sheet.{entry_at, count, length_fits, sound_as, is_field, is_form, stack_form, balance_form, meter_form}
use Rattle.std.proofs.lemmas.Bool.{and_parts, false_from_ne_true}

-- what the test of a field says
pub record IsField (e : Entry) (name kind at : ℕ) : Type 0 where
  pub named : e.name ≡ name
  pub kinded : e.kind ≡ kind
  pub long : length_fits kind e.len ≡ true
  pub place : e.offset ≡ at

field_so : (e : Entry) (name kind at : ℕ) → is_field e name kind at ≡ true → IsField e name kind at
unfolding is_field
field_so e name kind at h =
    let p = and_parts _ _ h in
    let q = and_parts _ _ p.0 in
    let r = and_parts _ _ q.0 in
    record { named = eqb-true _ _ r.0; kinded = eqb-true _ _ r.1; long = q.1; place = eqb-true _ _ p.1 }

field_is : (e : Entry) (name kind at : ℕ) → IsField e name kind at → is_field e name kind at ≡ true
unfolding is_field
field_is e name kind at f =
    rw (eq-eqb e.name name f.named, eq-eqb e.kind kind f.kinded, f.long, eq-eqb e.offset at f.place)

-- what the test of a form says
pub record Formed (f : Form) (s : List ℕ) : Type 0 where
  pub counted : count s ≡ 3
  pub first : IsField (entry_at s 0) 1 1 19
  pub second : IsField (entry_at s 1) f.second f.kind (19 + (entry_at s 0).len)
  pub third : IsField (entry_at s 2) f.third 3 (19 + (entry_at s 0).len + (entry_at s 1).len)
  pub ends : 19 + (entry_at s 0).len + (entry_at s 1).len + (entry_at s 2).len ≡ length s

module _ (f : Form) (s : List ℕ) where
  pub formed_so : is_form f s ≡ true → Formed f s
  unfolding is_form
  formed_so h =
      let p = and_parts _ _ h in
      let q = and_parts _ _ p.0 in
      let r = and_parts _ _ q.0 in
      let t = and_parts _ _ r.0 in
      record {
        counted = eqb-true _ _ t.0;
        first = field_so _ _ _ _ t.1;
        second = field_so _ _ _ _ r.1;
        third = field_so _ _ _ _ q.1;
        ends = eqb-true _ _ p.1;
      }

  pub formed_is : Formed f s → is_form f s ≡ true
  unfolding is_form
  formed_is w =
      rw (eq-eqb (count s) 3 w.counted, field_is _ _ _ _ w.first, field_is _ _ _ _ w.second, field_is _ _ _ _ w.third, eq-eqb _ (length s) w.ends)

  -- its table alone has 19 bytes
  pub short_form : length s < 19 → is_form f s ≡ false
  short_form h = false_from_ne_true _ (λ e. omega (arith, (formed_so e).ends))

  -- its third name is the form's
  pub third_is : Formed f s → get_or s 13 0 ≡ f.third
  unfolding entry_at
  third_is w = w.third.named

  only_third : get_or s 13 0 ≢ f.third → is_form f s ≡ false
  only_third h = false_from_ne_true _ (λ e. h (third_is (formed_so e)))

module _ (s : List ℕ) where
  pub no_stack : get_or s 13 0 ≢ 3 → sound_as Stack s ≡ false
  unfolding sound_as
  no_stack = only_third stack_form s

  pub no_balance : get_or s 13 0 ≢ 4 → sound_as Balance s ≡ false
  unfolding sound_as
  no_balance = only_third balance_form s

  pub no_meter : get_or s 13 0 ≢ 6 → sound_as Meter s ≡ false
  unfolding sound_as
  no_meter = only_third meter_form s
