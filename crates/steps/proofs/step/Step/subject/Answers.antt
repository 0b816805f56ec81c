use Rattle.book.specs.Steps.{bytes_in}
use Rattle.steps.proofs.step.Step.subject.Goals as goal

pub returns-in-Open : goal.returns-in-Open
unfolding bytes_in
returns-in-Open c = rw (c.in-Open.is, ← c.text.ensures) c.short_name.ensures
