use Rattle.amount.specs.Helpers.{ReducedBy}
use Rattle.amount.specs.Numbers.{val}
use Rattle.std.proofs.Common.{◌-◌, ◌≤◌}
use Rattle.amount.proofs.reduce.Given as goal

abbrev pub invariant-loop-r : goal.invariant-loop-r
invariant-loop-r l = (l.left ≤ l.places) × ReducedBy (val l.initial.r.quotient) (l.places - l.left) l.r

abbrev pub decreases-loop-r : goal.decreases-loop-r
decreases-loop-r l = l.left
