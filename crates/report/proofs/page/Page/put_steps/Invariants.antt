use Prim.Native.Nat.{◌*◌}
use lib.ListN.{take}
use Rattle.report.specs.Listing.{step_lines}
use Rattle.report.specs.Writing.{Wrote}
use Rattle.report.proofs.page.Page.put_steps.Given as goal

abbrev pub invariant-loop-i : goal.invariant-loop-i
invariant-loop-i l = Wrote (12 * l.i) l.initial.self (step_lines 1 (take l.i l.answers)) l.self
