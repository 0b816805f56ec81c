use Rattle.transition.proofs.Lengths.{credit_is_short}
use Rattle.transition.proofs.credit.Goals as goal

pub written-requires : goal.written-requires
written-requires c = rw c.credit_of.ensures (credit_is_short c.args.operation c.args.source.now c.args.destination.now c.args.input.now)
