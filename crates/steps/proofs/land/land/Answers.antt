use Rattle.steps.proofs.Tested.{Past, past_sound, pass, stop, all_passed, busy_as}
use Rattle.steps.proofs.Turned.{uncharged, refuses, accepts}
use Rattle.steps.proofs.Stored.{ending_tests, ending_flow, stored_end}
use Rattle.steps.specs.Turn.{with_sheet, ending}
use Rattle.book.specs.Book.{is_well_formed}
use Rattle.book.specs.Steps.{tests_finish, inflow, outflow, seen, answer}
use Rattle.book.specs.declared.Book.{Book}
use Rattle.book.specs.declared.error.BookError.TheVariants.{OffTheBook, Idle}
use Rattle.std.specs.Prelude.{Ok}
use borrow.Author.Tests.{le-leb, lt-leb}
use native.Mathlib.Omega.{arith}
use Prim.Native.Nat.{ℕ, ◌^◌, ◌<◌}
use mathlib.Core.Bool.{Bool, true}
use mathlib.Core.List.{List}
use mathlib.Core.Path.{◌≡◌, refl, ap, ◌∙◌}
use Rattle.steps.proofs.land.land.Goals as goal

-- ---- the tests passed: 22, 23

module _ (b : Book) (t : ℕ) (i : List ℕ) (back : Bool) (sound : is_well_formed b ≡ true) (low : t < 8) where
  past_2 : Past b (with_sheet (ending t back) i) 2
  unfolding tests_finish
  past_2 = pass (past_sound b _ sound) (rw (ending_tests t i back (seen b), lt-leb 8 t low))

  taken : (seen b).busy t ≡ true → answer b (with_sheet (ending t back) i) ≡ Ok tt
  unfolding tests_finish
  taken busy = all_passed (pass past_2 (rw (ending_tests t i back (seen b), busy))) (rw (ending_tests t i back (seen b)))

-- ---- the goals
pub returns-then-transfer-ge-TRANSFERS : goal.returns-then-transfer-ge-TRANSFERS
unfolding tests_finish
returns-then-transfer-ge-TRANSFERS c b i back sound v =
    refuses i OffTheBook _ refl (stop (past_sound b _ sound) _ (rw (ending_tests c.args.transfer i back (seen b), le-leb 8 c.args.transfer c.if-transfer-ge-TRANSFERS.true)))

pub returns-then-not-has : goal.returns-then-not-has
unfolding tests_finish
returns-then-not-has c b i back sound v =
    refuses i Idle _ refl
    (stop (past_2 b _ i back sound (omega arith)) _ (rw (ending_tests c.args.transfer i back (seen b), busy_as b _ _ _ (c.from.ensures ∙ v.pending) c.has.ensures ∙ c.if-not-has.true)))

pub returns : goal.returns
returns c b i back sound v =
    let low : c.args.was.opened < 2 ^ 16 = omega (arith, c.well_formed) in
    let yes· = taken b _ i back sound (omega arith) (busy_as b _ _ _ (c.from.ensures ∙ v.pending) c.has.ensures ∙ c.if-not-has.false) in
    let none· = ending_flow c.args.transfer i back in
    accepts i _ yes·
    (stored_end b _ i back yes· (rw (← v.opened) low) _ _ _ v c.wrapping_add.ensures c.without8.ensures)
    (λ m h. uncharged v sound (omega (arith, h, ap inflow none·, ap outflow none·)))
