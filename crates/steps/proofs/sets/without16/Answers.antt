use Rattle.audit.proofs.BitCode.{one_shifted, and_bit}
use borrow.Author.Rules.{rules}
use Rattle.steps.proofs.sets.without16.Goals as goal

pub returns : goal.returns
returns c = rw (one_shifted 16 c.args.p c.requires) (and_bit 16 c.args.set c.args.p (search rules) c.requires)
