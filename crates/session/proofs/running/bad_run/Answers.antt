use Rattle.book.specs.Steps.{start_answer, start_book}
use Rattle.session.specs.Session.{filled, bad_run}
use Rattle.session.proofs.running.bad_run.Goals as goal

pub returns : goal.returns
unfolding bad_run filled start_book start_answer
returns c = rw c.start_book.ensures
