use Rattle.amount.specs.Numbers.{val}
use Rattle.amount.proofs.Halves.{checked_number, checked_outside, times_halves, no_carry, carry_past}
use Rattle.std.proofs.Common.{◌+◌, ◌*◌, ◌^◌}
use Rattle.amount.proofs.uint128.mul_add.Goals as goal

pub returns-then-high-gt0 : goal.returns-then-high-gt0
returns-then-high-gt0 c =
    checked_outside (c.times_word-high.result.carry * 2 ^ 64 + c.times_word-high.result.low) c.times_word-low.result.low _ (carry_past _ _ c.if-high-gt0.true) (times_halves _ _ _ _ _ _ c.times_word-low.ensures.0 c.times_word-high.ensures.0)

pub returns : goal.returns
unfolding val
returns c =
    checked_number _ _ c.times_word-high.ensures.1 c.times_word-low.ensures.1 (times_halves _ _ _ _ _ _ c.times_word-low.ensures.0 (no_carry _ _ _ c.if-high-gt0.false c.times_word-high.ensures.0))
