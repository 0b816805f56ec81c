-- Written out, so that a contract that says another length fails at it.
use Rattle.credits.proofs.credits_apply.Goals as goal

pub returns : goal.returns
returns c = c.apply.ensures
