-- Written out, so that a contract that says another book or answer fails at it.
use Rattle.credits.proofs.book_calls.credits_book_act.Goals as goal

pub returns : goal.returns
returns c = c.step_in.ensures
