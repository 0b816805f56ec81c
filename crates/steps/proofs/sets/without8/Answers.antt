use Rattle.audit.proofs.BitCode.{one_shifted, and_bit}
use borrow.Author.Rules.{rules}
use Rattle.steps.proofs.sets.without8.Goals as goal

pub returns : goal.returns
returns c = rw (one_shifted 8 c.args.t c.requires) (and_bit 8 c.args.set c.args.t (search rules) c.requires)
