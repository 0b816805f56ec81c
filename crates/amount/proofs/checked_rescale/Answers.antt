use Rattle.amount.proofs.Multiplying.{scaled_all, scaled_over, scaled_more}
use Rattle.amount.proofs.Halves.{whole_of}
use Rattle.std.proofs.Common.{◌≡◌, sym, ◌∙◌, mul-one, arith}
use Rattle.amount.proofs.checked_rescale.Goals as goal

pub loop-init : goal.loop-init
loop-init c = (sym (mul-one _), whole_of _ (omega arith) (omega arith))

pub returns-in_err-number : goal.returns-in_err-number
returns-in_err-number c = c.from_residual.ensures ∙ scaled_over _ _ _ c.loop.invariant.0 _ (omega arith) (sym c.in_err-number.was ∙ c.mul_add.ensures)

pub loop-preserved : goal.loop-preserved
loop-preserved c = scaled_more _ _ _ c.loop.invariant.0 _ (sym c.in_ok-number.was ∙ c.mul_add.ensures)

pub returns : goal.returns
returns c =
    let e : c.args.places ≡ c.loop.counter = omega arith in
    rw e (scaled_all _ _ _ c.loop.invariant.0 c.loop.invariant.1)
