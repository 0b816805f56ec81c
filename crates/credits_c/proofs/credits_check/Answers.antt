-- Written out, so that an export that interchanges its sheets fails at them.
use Rattle.credits_c.proofs.credits_check.Goals as goal

pub returns : goal.returns
returns c = c.credits_check.ensures
