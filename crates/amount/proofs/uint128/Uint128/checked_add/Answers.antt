use Rattle.amount.proofs.Halves.{sum_over, sum_within}
use Rattle.std.proofs.Common.{◌∙◌, arith}
use Rattle.amount.proofs.uint128.Uint128.checked_add.Goals as goal

pub returns-in_err-checked_add : goal.returns-in_err-checked_add
returns-in_err-checked_add c = c.from_residual.ensures ∙ sum_over _ _ _ _ c.carrying_add-lo.ensures (omega (arith, c.in_err-checked_add.ensures))

pub returns-in_err-hi : goal.returns-in_err-hi
returns-in_err-hi c = c.from_residual-in_err-hi.ensures ∙ sum_over _ _ _ _ c.carrying_add-lo.ensures (omega (arith, c.in_err-hi.ensures, c.in_ok-checked_add.ensures))

pub returns : goal.returns
returns c = sum_within _ _ _ _ c.carrying_add-lo.ensures _ (omega (arith, c.in_ok-hi.ensures, c.in_ok-checked_add.ensures)) (omega arith) (omega arith)
