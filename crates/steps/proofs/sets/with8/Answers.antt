use Rattle.audit.proofs.BitCode.{one_shifted, or_bit}
use Rattle.steps.proofs.sets.with8.Goals as goal

pub returns : goal.returns
returns c = rw (one_shifted 8 c.args.t c.requires) (or_bit c.args.set c.args.t)
