use Rattle.amount.proofs.Widths.{Counting}
use Rattle.std.proofs.Common.{◌-◌}
use Rattle.amount.proofs.text.word_width.Given as goal

abbrev pub invariant-loop-rest : goal.invariant-loop-rest
invariant-loop-rest l = Counting l.n l.count l.rest

abbrev pub decreases-loop-rest : goal.decreases-loop-rest
decreases-loop-rest l = 39 - l.count

abbrev pub invariant-loop-rest-2 : goal.invariant-loop-rest-2
invariant-loop-rest-2 l = Counting l.n l.count l.rest

abbrev pub decreases-loop-rest-2 : goal.decreases-loop-rest-2
decreases-loop-rest-2 l = 39 - l.count
