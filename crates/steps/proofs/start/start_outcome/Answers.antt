use Rattle.book.specs.Steps.{start_answer}
use Rattle.std.proofs.Common.{lt-ltb, le-ltb}
use Rattle.steps.proofs.start.start_outcome.Goals as goal

pub returns-then-is_empty : goal.returns-then-is_empty
unfolding start_answer
returns-then-is_empty c = rw (← c.if-is_empty.ensures)

pub returns-then-unit-gt-NAME_BYTES : goal.returns-then-unit-gt-NAME_BYTES
unfolding start_answer
returns-then-unit-gt-NAME_BYTES c = rw (← c.if-is_empty.ensures, lt-ltb 32 _ c.if-unit-gt-NAME_BYTES.true)

pub returns : goal.returns
unfolding start_answer
returns c = rw (← c.if-is_empty.ensures, le-ltb 32 _ c.if-unit-gt-NAME_BYTES.false)
