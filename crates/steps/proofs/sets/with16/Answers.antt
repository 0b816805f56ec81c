use Rattle.audit.proofs.BitCode.{one_shifted, or_bit}
use Rattle.steps.proofs.sets.with16.Goals as goal

pub returns : goal.returns
returns c = rw (one_shifted 16 c.args.p c.requires) (or_bit c.args.set c.args.p)
