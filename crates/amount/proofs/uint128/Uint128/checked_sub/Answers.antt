use Rattle.amount.proofs.Halves.{difference_below, difference_within}
use Rattle.std.proofs.Common.{◌∙◌, arith}
use Rattle.amount.proofs.uint128.Uint128.checked_sub.Goals as goal

pub returns-in_err-checked_sub : goal.returns-in_err-checked_sub
returns-in_err-checked_sub c = c.from_residual.ensures ∙ difference_below _ _ _ _ c.borrowing_sub-lo.ensures (omega arith) (omega (arith, c.in_err-checked_sub.ensures))

pub returns-in_err-hi : goal.returns-in_err-hi
returns-in_err-hi c = c.from_residual-in_err-hi.ensures ∙ difference_below _ _ _ _ c.borrowing_sub-lo.ensures (omega arith) (omega (arith, c.in_err-hi.ensures, c.in_ok-checked_sub.ensures))

pub returns : goal.returns
returns c = difference_within _ _ _ _ c.borrowing_sub-lo.ensures _ (omega (arith, c.in_ok-hi.ensures, c.in_ok-checked_sub.ensures)) (omega arith)
