-- Written out, so that a contract that interchanges the places fails at them.
use Rattle.credits.proofs.book_calls.credits_book_begin.Goals as goal

pub returns : goal.returns
returns c = c.step_in.ensures
