use Rattle.amount.proofs.Widths.{Counting}
use Rattle.amount.specs.Numbers.{val}
use Rattle.std.proofs.Common.{◌-◌}
use Rattle.amount.proofs.text.width.Given as goal

abbrev pub invariant-loop-rest : goal.invariant-loop-rest
invariant-loop-rest l = Counting (val l.initial.rest) l.count (val l.rest)

abbrev pub decreases-loop-rest : goal.decreases-loop-rest
decreases-loop-rest l = 39 - l.count
