use Rattle.transition.proofs.Lengths.{next_is_short}
use Rattle.transition.proofs.apply.Goals as goal

pub written-requires : goal.written-requires
written-requires c = rw c.next_of.ensures (next_is_short c.args.profile c.args.operation c.args.state.now c.args.input.now)
