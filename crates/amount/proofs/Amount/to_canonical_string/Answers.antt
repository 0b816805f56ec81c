use Rattle.std.proofs.Common.{◌+◌, ◌≤◌, arith, length-set}
use Rattle.amount.proofs.Assembling.{zeros_split, text_fits, width_few, before_fraction, whole_only, with_point}
use Rattle.amount.proofs.Writing.{put_point}
use Rattle.amount.proofs.Halves.{whole_of}
use Rattle.amount.specs.Canonical.{zeros}
use Rattle.amount.specs.Numbers.{val}
use Rattle.amount.proofs.Amount.to_canonical_string.Goals.{After-width-digits, After-width-len}
use Rattle.amount.proofs.Amount.to_canonical_string.Goals as goal

-- a whole number has at most 39 digits, and the text at most 257 bytes
whole-fits : (c : After-width-len) → c.width-len.result ≤ 39
whole-fits c = rw c.width-len.ensures (width_few _)

len-fits : (c : After-width-digits) → c.width-digits.result + 1 + c.stripped-a.result.scale ≤ 257
len-fits c =
    rw c.width-digits.ensures
    (text_fits (val c.stripped-a.result.mantissa) c.stripped-a.result.scale _ (whole_of c.stripped-a.result.mantissa (omega arith) (omega arith)).fits (omega arith) c.whole_part-whole.ensures)

pub put_digits-requires : goal.put_digits-requires
put_digits-requires c = omega (arith, whole-fits (goal.at.put_digits-requires c).After-width-len)

pub overflow_cast-result : goal.overflow_cast-result
overflow_cast-result c = omega (arith, whole-fits (goal.at.overflow_cast-result c).After-width-len)

pub returns-then-a-eq0 : goal.returns-then-a-eq0
unfolding zeros
returns-then-a-eq0 c =
    whole_only _ _ c.stripped-a.ensures _ _ c.if-a-eq0.true c.width-len.ensures (c.put_digits.ensures _ (zeros_split c.width-len.result 257 (omega (arith, whole-fits (goal.at.returns-then-a-eq0 c).After-width-len))))

pub overflow_add-len : goal.overflow_add-len
overflow_add-len c = omega (arith, len-fits (goal.at.overflow_add-len c).After-width-digits)

pub overflow_add-len-2 : goal.overflow_add-len-2
overflow_add-len-2 c = omega (arith, len-fits (goal.at.overflow_add-len-2 c).After-width-digits)

pub put_digits-requires-2 : goal.put_digits-requires-2
put_digits-requires-2 c = omega (arith, len-fits (goal.at.put_digits-requires-2 c).After-width-digits)

pub bounds-bytes-digits : goal.bounds-bytes-digits
bounds-bytes-digits c = omega (arith, len-fits (goal.at.bounds-bytes-digits c).After-width-digits)

pub put_digits-requires-3 : goal.put_digits-requires-3
put_digits-requires-3 c = (omega arith, simp length-set (omega (arith, len-fits (goal.at.put_digits-requires-3 c).After-width-digits)))

pub overflow_cast-result-2 : goal.overflow_cast-result-2
overflow_cast-result-2 c = omega (arith, len-fits (goal.at.overflow_cast-result-2 c).After-width-digits)

pub returns : goal.returns
unfolding zeros
returns c =
    with_point _ _ c.stripped-a.ensures _ _ c.whole_part-whole.ensures c.width-digits.ensures _ c.if-a-eq0.false
    (c.put_digits-3.ensures _ (put_point _ _ _ (before_fraction c.width-digits.result c.stripped-a.result.scale _ (c.put_digits-2.ensures _ (zeros_split (c.width-digits.result + 1 + c.stripped-a.result.scale) 257 (len-fits (goal.at.returns c).After-width-digits))))))
