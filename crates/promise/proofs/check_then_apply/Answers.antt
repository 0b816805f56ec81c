use native.Mathlib.Omega.{arith}
use Rattle.promise.proofs.Promising.{refused_in_one, accepted_in_one}
use Rattle.promise.proofs.check_then_apply.Goals as goal

pub returns-then-checked-ne0 : goal.returns-then-checked-ne0
returns-then-checked-ne0 c = refused_in_one _ _ _ _ _ _ c.credits_check-checked.ensures c.if-checked-ne0.true

pub returns : goal.returns
returns c =
    accepted_in_one _ _ _ _ _ _ c.credits_check-checked.ensures (λ k. omega (arith, c.type_inv.state k)) c.if-checked-ne0.false _ _ c.credits_apply.ensures.0 c.credits_apply.ensures.1
