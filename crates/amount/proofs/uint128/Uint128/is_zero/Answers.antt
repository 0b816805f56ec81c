use Rattle.amount.proofs.Halves.{val_zero, val_pos}
use Rattle.std.proofs.Common.{ℕ, eqb, sym, ◌∙◌, ap, ne_eqb}
use Rattle.amount.proofs.uint128.Uint128.is_zero.Goals as goal

pub returns-then-self-eq0 : goal.returns-then-self-eq0
returns-then-self-eq0 c = ap (λ (n : ℕ). eqb n 0) (val_zero _ c.if-self-eq0.true)

pub returns-else-self-eq0 : goal.returns-else-self-eq0
returns-else-self-eq0 c = ne_eqb _ _ c.if-self-eq0.false ∙ sym (ne_eqb _ _ (val_pos _ c.if-self-eq0.false))
