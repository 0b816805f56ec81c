use Rattle.audit.proofs.Sound.{PlacesSeen, TransfersSeen}
use Rattle.audit.proofs.totals.total_of.Given as goal

abbrev pub invariant-loop-p : goal.invariant-loop-p
invariant-loop-p l = PlacesSeen l.book l.p l.sum

abbrev pub invariant-loop-t : goal.invariant-loop-t
invariant-loop-t l = TransfersSeen l.book l.t l.sum
