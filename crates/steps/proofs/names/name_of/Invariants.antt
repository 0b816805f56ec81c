use Rattle.std.proofs.Common.{◌≡◌}
use lib.Seq.{paste}
use Rattle.steps.proofs.names.name_of.Given as goal

abbrev pub invariant-loop-i : goal.invariant-loop-i
invariant-loop-i l = l.bytes ≡ paste l.initial.bytes 0 l.text l.i
