use Rattle.amount.proofs.Scaling.{beside}
use Rattle.amount.proofs.Halves.{halves_order}
use Rattle.std.specs.declared.cmp.Ordering.TheVariants.{Less, Equal}
use Rattle.std.proofs.Common.{◌≡◌, cond, ◌∙◌, arith}
use Rattle.amount.proofs.cmp_rescaled.Goals.{then-r, else-r}
use Rattle.amount.proofs.cmp_rescaled.Goals as goal

pub returns : goal.returns
returns c =
    let tie : c.if-r.tie ≡ cond c.reduce-r.result.rest Less Equal = elim c.if-r.branch [ then-r w ↦ rw w.if-r.true w.tie-is | else-r w ↦ rw w.if-r.false w.tie-is ] in
    c.then.ensures ∙ beside c.reduce-r.ensures _ _ _ (c.cmp.ensures ∙ halves_order _ _ (omega arith) (omega arith)) tie
