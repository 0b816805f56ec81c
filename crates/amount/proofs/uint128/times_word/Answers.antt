use Rattle.amount.proofs.Halves.{product_join}
use Rattle.std.proofs.Common.{arith}
use Rattle.amount.proofs.uint128.times_word.Goals as goal

pub returns : goal.returns
returns c = (product_join c.args.x c.args.factor c.args.add, omega arith)
