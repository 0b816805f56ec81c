use Rattle.std.proofs.Common.{length, ◌≤◌}
use Rattle.tally.specs.Judging.{Leads}
use Rattle.tally.proofs.judge_all.Given as goal

abbrev pub invariant-loop-judge : goal.invariant-loop-judge
invariant-loop-judge g l = record { led : Leads g.J.Judge.follows l.list l.rest; within : length l.rest ≤ length l.list }

abbrev pub decreases-loop-judge : goal.decreases-loop-judge
decreases-loop-judge g l = length l.rest
