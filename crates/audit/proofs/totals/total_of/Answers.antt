use Rattle.std.proofs.Common.{ℕ, sym, ap, ◌∙◌, subst, arith}
use Rattle.book.specs.Sets.{has}
use Rattle.book.specs.Book.{place_record, transfer_record, name_ok}
use Rattle.book.proofs.Formed.{Whole}
use Rattle.audit.proofs.Sound.{PlacesSeen, TransfersSeen, no_places, open_place_lem, closed_place, no_transfers, pending_transfer, idle_transfer, passed, unit_fails, place_scale_fails, subject_fails, transfer_scale_fails, ends_fail}
use Rattle.audit.proofs.totals.total_of.Goals.{then-place-ne0-via-then-place-ne0, then-place-ne0-via-else-place-ne0+then-place-ne0-2, then-has+else-not-is_name_length-2, else-has, then-has-2+else-not-both, else-has-2}
use Rattle.audit.proofs.totals.total_of.Goals as goal

pub returns-then-not-is_name_length : goal.returns-then-not-is_name_length
unfolding name_ok
returns-then-not-is_name_length c = unit_fails _ (sym c.is_name_length.ensures ∙ c.if-not-is_name_length.true)

pub loop-p-init : goal.loop-p-init
loop-p-init c = no_places c.args.book.now

pub returns-then-place-ne0 : goal.returns-then-place-ne0
unfolding place_record
returns-then-place-ne0 c =
    let fails = place_scale_fails c.args.book.now c.loop-p.p c.loop-p-test.true in
    elim c.then-place-ne0.branch [
      | then-place-ne0-via-then-place-ne0 w ↦ fails (λ z. w.if-place-ne0.true z.balance)
      | then-place-ne0-via-else-place-ne0+then-place-ne0-2 w ↦ fails (λ z. w.if-place-ne0-2.true z.reserved)
    ]

pub returns-then-not-is_name_length-2 : goal.returns-then-not-is_name_length-2
unfolding place_record name_ok
returns-then-not-is_name_length-2 c =
    subject_fails _ c.loop-p.p c.loop-p-test.true (sym c.has.ensures ∙ c.if-has.true) (sym c.is_name_length-then-has.ensures ∙ c.if-not-is_name_length-2.true)

pub loop-p-preserved : goal.loop-p-preserved
unfolding place_record name_ok
loop-p-preserved c =
    let test = sym c.has.ensures in
    let scales : Whole (place_record c.args.book.now c.loop-p.p) = record { balance = c.if-place-ne0.false; reserved = c.if-place-ne0-2.false } in
    elim c.if-has.branch [
      | then-has+else-not-is_name_length-2 w ↦
          open_place_lem _ c.loop-p.p c.loop-p.invariant scales (test ∙ w.if-has.true) (sym w.is_name_length-then-has.ensures ∙ w.if-not-is_name_length-2.false) w.sum-is w.plus.ensures w.plus-sum.ensures
      | else-has w ↦ closed_place _ c.loop-p.p c.loop-p.invariant scales (test ∙ w.if-has.false) w.sum-is
    ]

pub loop-t-init : goal.loop-t-init
loop-t-init c = no_transfers c.args.book.now _ (subst (λ (n : ℕ). PlacesSeen c.args.book.now n c.loop-p.sum) (omega arith) c.loop-p.invariant)

pub returns-then-transfer-ne0 : goal.returns-then-transfer-ne0
unfolding transfer_record
returns-then-transfer-ne0 c = transfer_scale_fails c.args.book.now c.loop-t.t c.loop-t-test.true c.if-transfer-ne0.true

pub returns-then-not-both : goal.returns-then-not-both
unfolding transfer_record
returns-then-not-both c =
    ends_fail _ c.loop-t.t c.loop-t-test.true (ap (λ (n : ℕ). has n c.loop-t.t) (sym c.from.ensures) ∙ sym c.has-in-loop-t.ensures ∙ c.if-has-2.true) (sym c.both.ensures ∙ c.if-not-both.true)

pub loop-t-preserved : goal.loop-t-preserved
unfolding transfer_record
loop-t-preserved c =
    let test = ap (λ (n : ℕ). has n c.loop-t.t) (sym c.from.ensures) ∙ sym c.has-in-loop-t.ensures in
    elim c.if-has-2.branch [
      | then-has-2+else-not-both w ↦
          pending_transfer _ c.loop-t.t c.loop-t.invariant c.if-transfer-ne0.false (test ∙ w.if-has-2.true) (sym w.both.ensures ∙ w.if-not-both.false) w.sum-is w.plus-sum-then-has-2.ensures
      | else-has-2 w ↦ idle_transfer _ c.loop-t.t c.loop-t.invariant c.if-transfer-ne0.false (test ∙ w.if-has-2.false) w.sum-is
    ]

pub returns : goal.returns
unfolding name_ok
returns c =
    c.checked.ensures
    ∙ passed c.args.book.now _ _ (sym c.is_name_length.ensures ∙ c.if-not-is_name_length.false)
    (subst (λ (n : ℕ). PlacesSeen c.args.book.now n c.loop-p.sum) (omega arith) c.loop-p.invariant)
    (subst (λ (n : ℕ). TransfersSeen c.args.book.now n c.loop-t.sum) (omega arith) c.loop-t.invariant)
