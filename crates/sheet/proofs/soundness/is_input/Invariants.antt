use Prim.Native.Nat.{◌-◌}
use Rattle.sheet.specs.Sheet.{count}
use Rattle.sheet.proofs.Walking.{Walked}
use Rattle.sheet.proofs.soundness.is_input.Given as goal

abbrev pub invariant-loop-e : goal.invariant-loop-e
invariant-loop-e l = Walked l.s l.reader l.last

abbrev pub decreases-loop-e : goal.decreases-loop-e
decreases-loop-e l = count l.reader.sheet.now - l.reader.next
