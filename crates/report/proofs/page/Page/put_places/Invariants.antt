use Prim.Native.Nat.{◌*◌}
use Rattle.report.specs.Listing.{place_lines}
use Rattle.report.specs.Writing.{Wrote}
use Rattle.report.proofs.page.Page.put_places.Given as goal

abbrev pub invariant-loop-p : goal.invariant-loop-p
invariant-loop-p l = Wrote (90 * l.p) l.initial.self (place_lines l.book l.p) l.self
