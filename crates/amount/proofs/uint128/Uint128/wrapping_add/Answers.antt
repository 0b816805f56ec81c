use Rattle.amount.proofs.Halves.{sum_wraps}
use Rattle.std.proofs.Common.{arith}
use Rattle.amount.proofs.uint128.Uint128.wrapping_add.Goals as goal

pub returns : goal.returns
returns c = sum_wraps _ _ _ _ c.carrying_add-lo.ensures _ _ c.carrying_add-hi.ensures (omega arith) (omega arith)
