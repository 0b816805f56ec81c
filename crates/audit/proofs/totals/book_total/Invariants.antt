use Rattle.audit.proofs.Sound.{PlacesCounted, TransfersCounted}
use Rattle.audit.proofs.totals.book_total.Given as goal

abbrev pub invariant-loop-p : goal.invariant-loop-p
invariant-loop-p l = PlacesCounted l.book l.p l.sum

abbrev pub invariant-loop-t : goal.invariant-loop-t
invariant-loop-t l = TransfersCounted l.book l.t l.sum
