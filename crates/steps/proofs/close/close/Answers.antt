use Rattle.steps.proofs.Tested.{Past, past_sound, pass, stop, all_passed, open_as, there_as, held_is, reserved_is, awaited_is}
use Rattle.steps.proofs.Turned.{uncharged, refuses, accepts}
use Rattle.steps.proofs.Stored.{stored_close}
use Rattle.steps.specs.Turn.{Shows}
use Rattle.steps.specs.declared.step.Step.TheVariants as Code
use Rattle.steps.specs.declared.step.View.{View}
use Rattle.amount.specs.Numbers.{val}
use Rattle.book.specs.Sets.{has}
use Rattle.book.specs.Book.{is_well_formed}
use Rattle.book.specs.Steps.{Close, tests_close, seen, answer}
use Rattle.book.specs.declared.Book.{Book}
use Rattle.book.specs.declared.error.BookError.TheVariants.{Profile, OffTheBook, NotEmpty, Awaited}
use Rattle.registry.specs.declared.error.ProfileError.TheVariants.{Unborn}
use Rattle.std.specs.Prelude.{Ok}
use borrow.Author.Tests.{le-leb, lt-leb, eq-eqb, ne_eqb, eqb-true, eqb-false}
use lib.Dec.{eqb}
use native.Mathlib.Nat.{mod-eq_of_lt}
use native.Mathlib.Omega.{arith}
use Prim.Native.Nat.{ℕ, ◌+◌, ◌<◌}
use mathlib.Core.Bool.{Bool, true, false}
use mathlib.Core.Path.{◌≡◌, refl, sym, ◌∙◌}
use Rattle.steps.proofs.close.close.Goals.{then-not-is_zero-via-then-not-is_zero, then-not-is_zero-via-else-not-is_zero+then-not-is_zero-2}
use Rattle.steps.proofs.close.close.Goals as goal

-- ---- the tests passed: 22, 6, 29, 30

module _ {b : Book} {p : ℕ} {x : View} (v : Shows b (Code.Close p) x) (sound : is_well_formed b ≡ true) (low : p < 16) where
  past_2 : Past b (Close p) 2
  unfolding tests_close
  past_2 = pass (past_sound b _ sound) (rw (lt-leb 16 p low))

  module _ (here : has b.opened p ≡ true) where
    past_3 : Past b (Close p) 3
    unfolding tests_close
    past_3 = pass past_2 (rw (there_as b p b.opened true refl (sym here)))

    -- what the place holds and has reserved is what the code is shown
    abbrev all : ℕ
    all = (seen b).held p + (seen b).reserved p

    all_is : all ≡ val x.held + val x.reserved
    all_is = rw (held_is b p here, reserved_is b p here, v.held, v.reserved, mod-eq_of_lt low)

    some_held : eqb (val x.held) 0 ≡ false → eqb all 0 ≡ false
    some_held h = ne_eqb all 0 (λ z. eqb-false (val x.held) 0 h (omega (arith, z, all_is)))

    some_reserved : eqb (val x.reserved) 0 ≡ false → eqb all 0 ≡ false
    some_reserved h = ne_eqb all 0 (λ z. eqb-false (val x.reserved) 0 h (omega (arith, z, all_is)))

    none_there : eqb (val x.held) 0 ≡ true → eqb (val x.reserved) 0 ≡ true → eqb all 0 ≡ true
    none_there h k = eq-eqb all 0 (omega (arith, all_is, eqb-true (val x.held) 0 h, eqb-true (val x.reserved) 0 k))

    module _ (empty : eqb all 0 ≡ true) where
      past_4 : Past b (Close p) 4
      unfolding tests_close
      past_4 = pass past_3 (rw empty)

      awaited_as : {r : Bool} → x.awaited ≡ r → (seen b).awaited p ≡ r
      awaited_as h = awaited_is b p ∙ sym v.awaited ∙ h

      taken : (seen b).awaited p ≡ false → answer b (Close p) ≡ Ok tt
      unfolding tests_close
      taken bare = all_passed (pass past_4 (rw bare)) refl

-- ---- the goals
pub returns-then-place-ge-PLACES : goal.returns-then-place-ge-PLACES
unfolding tests_close
returns-then-place-ge-PLACES c b i sound v =
    refuses i OffTheBook _ refl (stop (past_sound b _ sound) _ (rw (le-leb 16 c.args.place c.if-place-ge-PLACES.true)))

pub returns-then-not-has : goal.returns-then-not-has
unfolding tests_close
returns-then-not-has c b i sound v =
    refuses i (Profile Unborn) _ refl
    (stop (past_2 v sound (omega arith)) _ (rw (there_as b _ _ _ v.opened c.has.ensures ∙ c.if-not-has.true)))

pub returns-then-not-is_zero : goal.returns-then-not-is_zero
unfolding tests_close
returns-then-not-is_zero c b i sound v =
    let low : c.args.place < 16 = omega arith in
    let here = open_as b _ _ _ v.opened c.has.ensures ∙ c.if-not-has.false in
    let some : eqb (all v sound low here) 0 ≡ false =
    elim c.then-not-is_zero.branch [
      | then-not-is_zero-via-then-not-is_zero w ↦ some_held v sound low here (sym c.is_zero.ensures ∙ w.if-not-is_zero.true)
      | then-not-is_zero-via-else-not-is_zero+then-not-is_zero-2 w ↦
          some_reserved v sound low here (sym w.is_zero-else-not-is_zero.ensures ∙ w.if-not-is_zero-2.true)
    ] in
    refuses i NotEmpty _ refl (stop (past_3 v sound low here) _ (rw some))

pub returns-then-was : goal.returns-then-was
unfolding tests_close
returns-then-was c b i sound v =
    let here = open_as b _ _ _ v.opened c.has.ensures ∙ c.if-not-has.false in
    let empty = none_there v sound (omega arith) here (sym c.is_zero.ensures ∙ c.if-not-is_zero.false) (sym c.is_zero-else-not-is_zero.ensures ∙ c.if-not-is_zero-2.false) in
    refuses i Awaited _ refl
    (stop (past_4 v sound (omega arith) here empty) _ (rw (awaited_as v sound (omega arith) here empty c.if-was.true)))

pub returns : goal.returns
returns c b i sound v =
    let here = open_as b _ _ _ v.opened c.has.ensures ∙ c.if-not-has.false in
    let empty = none_there v sound (omega arith) here (sym c.is_zero.ensures ∙ c.if-not-is_zero.false) (sym c.is_zero-else-not-is_zero.ensures ∙ c.if-not-is_zero-2.false) in
    let yes· = taken v sound (omega arith) here empty (awaited_as v sound (omega arith) here empty c.if-was.false) in
    accepts i _ yes· (stored_close b _ i yes· _ _ v c.without16.ensures) (λ m h. uncharged v sound (omega (arith, h)))
