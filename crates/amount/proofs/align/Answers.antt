use Rattle.amount.proofs.Summing.{align_left, align_right, align_both}
use Rattle.std.proofs.Common.{sym, ◌∙◌}
use Rattle.amount.proofs.align.Goals as goal

pub returns-in_err-left : goal.returns-in_err-left
returns-in_err-left c = c.from_residual.ensures ∙ align_left _ _ _ c.max-scale.ensures (sym c.in_err-left.was ∙ c.checked_rescale.ensures)

pub returns-in_err-right : goal.returns-in_err-right
returns-in_err-right c =
    c.from_residual-in_err-right.ensures ∙ align_right _ _ _ c.max-scale.ensures (sym c.in_err-right.was ∙ c.checked_rescale-2.ensures)

pub returns : goal.returns
returns c =
    align_both _ _ _ c.max-scale.ensures _ _ (sym c.in_ok-left.was ∙ c.checked_rescale.ensures) (sym c.in_ok-right.was ∙ c.checked_rescale-2.ensures)
