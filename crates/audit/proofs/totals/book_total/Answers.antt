use Rattle.std.proofs.Common.{ℕ, sym, ap, ◌∙◌, arith}
use Rattle.book.specs.Sets.{has}
use Rattle.book.specs.Book.{place_record, transfer_record}
use Rattle.audit.proofs.Sound.{none_counted, places_counted, all_counted}
use Rattle.audit.proofs.Sums.{wrapped_next, wrapped_twice, wrapped_same, stock_counts, carried_counts}
use Rattle.audit.proofs.totals.book_total.Goals.{then-has, else-has, then-has-2, else-has-2}
use Rattle.audit.proofs.totals.book_total.Goals as goal

pub loop-p-init : goal.loop-p-init
loop-p-init c = none_counted c.args.book.now

pub loop-p-preserved : goal.loop-p-preserved
unfolding place_record
loop-p-preserved c =
    let counts = stock_counts c.args.book.now c.loop-p.p in
    elim c.if-has.branch [
      | then-has w ↦ wrapped_next c.loop-p.invariant _ _ (counts _ (sym w.if-has.true ∙ c.has.ensures))
          (wrapped_twice _ _ _ _ _ w.wrapping_add.ensures (w.sum-is ∙ w.wrapping_add-sum.ensures))
      | else-has w ↦ wrapped_same c.loop-p.invariant _ (counts _ (sym w.if-has.false ∙ c.has.ensures)) w.sum-is
    ]

pub loop-t-init : goal.loop-t-init
loop-t-init c = places_counted _ _ _ (omega arith) c.loop-p.invariant

pub loop-t-preserved : goal.loop-t-preserved
unfolding transfer_record
loop-t-preserved c =
    let counts = carried_counts c.args.book.now c.loop-t.t in
    let is = c.has-in-loop-t.ensures ∙ ap (λ (n : ℕ). has n c.loop-t.t) c.from.ensures in
    elim c.if-has-2.branch [
      | then-has-2 w ↦ wrapped_next c.loop-t.invariant _ _ (counts _ (sym w.if-has-2.true ∙ is)) (w.sum-is ∙ w.wrapping_add-sum-then-has-2.ensures)
      | else-has-2 w ↦ wrapped_same c.loop-t.invariant _ (counts _ (sym w.if-has-2.false ∙ is)) w.sum-is
    ]

pub returns : goal.returns
returns c = all_counted _ _ _ (omega arith) c.loop-t.invariant
