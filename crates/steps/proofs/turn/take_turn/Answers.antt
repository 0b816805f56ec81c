use Rattle.steps.proofs.Tested.{unsound}
use Rattle.steps.proofs.Turned.{counted, uncounted, some_told, none_told, refuses, arm}
use Rattle.registry.proofs.Tests.{exits}
use Rattle.book.specs.declared.error.BookError.TheVariants.{BadBook}
use Rattle.std.specs.Prelude.{Err}
use mathlib.Core.Bool.{true, false}
use mathlib.Core.Logic.{⊎_elim}
use mathlib.Core.Path.{sym, ap, ◌∙◌}
use Rattle.steps.proofs.turn.take_turn.Goals as goal

pub returns-in_err-total : goal.returns-in_err-total
returns-in_err-total c b v u =
    let n = none_told c.args.was.total _ _ (sym c.ok_or.ensures.value ∙ c.in_err-total.was) in
    refuses _ BadBook _ (exits _ _ c.from_residual.ensures.1 ∙ ap Err n.1) (unsound b _ (uncounted v n.0))

pub returns-in-Begin : goal.returns-in-Begin
returns-in-Begin c b v u =
    let sound = (counted v (some_told c.args.was.total _ _ (sym c.ok_or.ensures.value ∙ c.in_ok-total.was))).0 in
    arm b _ _ _ c.in-Begin.is (c.begin.ensures b sound) v

pub returns-in-Close : goal.returns-in-Close
returns-in-Close c b v u =
    let sound = (counted v (some_told c.args.was.total _ _ (sym c.ok_or.ensures.value ∙ c.in_ok-total.was))).0 in
    arm b _ _ _ c.in-Close.is (c.close.ensures b _ sound) v

pub returns-in-Finish : goal.returns-in-Finish
returns-in-Finish c b v u =
    let sound = (counted v (some_told c.args.was.total _ _ (sym c.ok_or.ensures.value ∙ c.in_ok-total.was))).0 in
    ⊎_elim (λ e. arm b _ _ _ e (c.land.ensures b _ false sound) v) (λ e. arm b _ _ _ e (c.land.ensures b _ true sound) v) c.in-Finish.is
