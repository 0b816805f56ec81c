use Rattle.amount.proofs.Halves.{difference_wraps}
use Rattle.std.proofs.Common.{arith}
use Rattle.amount.proofs.uint128.Uint128.wrapping_sub.Goals as goal

pub returns : goal.returns
returns c = difference_wraps _ _ _ _ c.borrowing_sub-lo.ensures _ _ c.borrowing_sub-hi.ensures (omega arith) (omega arith) (omega arith) (omega arith)
