use Rattle.std.specs.Prelude.{◌≡◌}
use Rattle.session.specs.Session.{start_of}
use Rattle.session.proofs.Rounds.{Ran}
use Rattle.session.proofs.running.do_steps.Given as goal

abbrev pub invariant-loop-j : goal.invariant-loop-j
invariant-loop-j l = Ran l.s (start_of l.s) 1 l.run.book l.total l.run.steps l.j × (l.run.number ≡ 0) × (l.run.count ≡ l.j-end)
