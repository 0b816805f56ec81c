use Rattle.std.proofs.Common.{sym, ◌∙◌}
use Rattle.session.specs.Session.{run_of}
use Rattle.session.proofs.running.run.Goals as goal

pub returns-then-is_good : goal.returns-then-is_good
unfolding run_of
returns-then-is_good c = rw (sym c.is_good.ensures ∙ c.if-is_good.true) c.do_steps.ensures

pub returns-else-is_good : goal.returns-else-is_good
unfolding run_of
returns-else-is_good c = rw (sym c.is_good.ensures ∙ c.if-is_good.false) c.bad_run-run.ensures
