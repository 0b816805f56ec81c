use Rattle.std.proofs.Common.{refl, arith}
use Rattle.audit.proofs.Sums.{past, held, past_by, held_by}
use Rattle.audit.proofs.totals.HalfSums.checked.Goals.{then-self-ne0-via-then-self-ne0, then-self-ne0-via-else-self-ne0+then-over}
use Rattle.audit.proofs.totals.HalfSums.checked.Goals as goal

pub returns-then-self-ne0 : goal.returns-then-self-ne0
returns-then-self-ne0 c =
    elim c.then-self-ne0.branch [
      | then-self-ne0-via-then-self-ne0 w ↦ past _ (omega (arith, w.if-self-ne0.true))
      | then-self-ne0-via-else-self-ne0+then-over w ↦ past _ (past_by _ _ _ _ w.if-over.true c.carrying_add-hi.ensures)
    ]

pub returns : goal.returns
returns c = held _ _ c.if-self-ne0.false (held_by _ _ _ c.if-over.false c.carrying_add-hi.ensures) refl (omega arith) (omega arith)
