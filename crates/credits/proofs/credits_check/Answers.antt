-- Written out, so that a contract that interchanges two figures of the answer fails at them.
use Rattle.std.proofs.Common.{ap, ◌∙◌}
use Rattle.registry.specs.Refusals.{answer_of}
use Rattle.credits.proofs.credits_check.Goals as goal

pub returns : goal.returns
returns c = c.answer_of.ensures ∙ ap answer_of c.check.ensures
