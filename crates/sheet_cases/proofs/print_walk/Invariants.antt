use Prim.Native.Nat.{◌-◌}
use Rattle.sheet.specs.Sheet.{count}
use Rattle.sheet_cases.proofs.print_walk.Given as goal

abbrev pub decreases-loop-e : goal.decreases-loop-e
decreases-loop-e g l = count l.reader.sheet.now - l.reader.next
