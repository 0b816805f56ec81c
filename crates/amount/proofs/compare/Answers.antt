use Rattle.amount.proofs.Halves.{halves_order}
use Rattle.amount.proofs.Scaling.{compare_same, compare_up, compare_reversed}
use Rattle.std.specs.Ordering.{ordering_reverse}
use Rattle.std.proofs.Common.{◌≡◌, ◌-◌, ap, ◌∙◌, arith}
use Rattle.amount.proofs.compare.Goals as goal

pub returns-then-left-right : goal.returns-then-left-right
returns-then-left-right c = c.cmp.ensures ∙ halves_order _ _ (omega arith) (omega arith) ∙ compare_same _ _ c.if-left-right.true

pub returns-in-Some : goal.returns-in-Some
returns-in-Some c =
    let e : c.in-Some.places ≡ c.args.right.scale - c.args.left.scale = omega (arith, c.in-Some.ensures) in
    c.cmp_rescaled.ensures ∙ rw e (compare_up _ _ (omega (arith, c.in-Some.ensures)))

pub returns-in-None : goal.returns-in-None
returns-in-None c = c.reverse.ensures ∙ ap ordering_reverse (c.cmp_rescaled-in-None.ensures ∙ compare_up _ _ (omega (arith, c.in-None.ensures))) ∙ compare_reversed _ _
