use borrow.Author.Tests.{le-leb, lt-leb}
use Rattle.steps.specs.Turn.{short_name}
use Rattle.steps.proofs.names.short_name.Goals as goal

pub returns-then-text-gt-NAME_BYTES : goal.returns-then-text-gt-NAME_BYTES
unfolding short_name
returns-then-text-gt-NAME_BYTES c = rw (lt-leb _ 32 c.if-text-gt-NAME_BYTES.true) c.blank_name.ensures

pub returns : goal.returns
unfolding short_name
returns c = rw (le-leb _ 32 c.if-text-gt-NAME_BYTES.false) c.name_of.ensures
