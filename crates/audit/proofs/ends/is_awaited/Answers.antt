use Rattle.std.proofs.Common.{◌≡◌, ℕ, false, refl, sym, ap, ◌∙◌, subst, arith}
use Rattle.book.specs.Sets.{has, any}
use Rattle.book.specs.Book.{transfer_record, awaited}
use Rattle.audit.proofs.Naming.{named_before, named_next, named_some, names_under_way, names_none}
use Rattle.audit.proofs.ends.is_awaited.Goals.{else-has-via-then-has+else-names, else-has-via-else-has}
use Rattle.audit.proofs.ends.is_awaited.Goals as goal

pub loop-t-init : goal.loop-t-init
unfolding any
loop-t-init c = refl

pub returns-then-names : goal.returns-then-names
unfolding transfer_record
returns-then-names c =
    let b = c.args.book.now in
    let under_way = ap (λ (n : ℕ). has n c.loop-t.t) (sym c.from.ensures) ∙ sym c.has.ensures ∙ c.if-has.true in
    sym (named_some b _ c.loop-t.t c.loop-t-test.true (names_under_way b _ c.loop-t.t under_way ∙ sym c.names.ensures ∙ c.if-names.true))

pub loop-t-preserved : goal.loop-t-preserved
unfolding transfer_record
loop-t-preserved c =
    let b = c.args.book.now in
    let test = ap (λ (n : ℕ). has n c.loop-t.t) (sym c.from.ensures) ∙ sym c.has.ensures in
    named_next b c.args.place c.loop-t.t c.loop-t.invariant
    (elim c.else-has.branch [
      | else-has-via-then-has+else-names w ↦ names_under_way b _ c.loop-t.t (test ∙ w.if-has.true) ∙ sym w.names.ensures ∙ w.if-names.false
      | else-has-via-else-has w ↦ names_none b _ c.loop-t.t (test ∙ w.if-has.false)
    ])

pub returns : goal.returns
unfolding awaited
returns c = sym (subst (λ (n : ℕ). named_before c.args.book.now c.args.place n ≡ false) (omega arith) c.loop-t.invariant)
