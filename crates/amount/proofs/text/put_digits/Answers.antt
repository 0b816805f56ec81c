use Rattle.amount.proofs.Writing.{writing_none, writing_more, writing_all, rest_digits}
use Rattle.amount.proofs.Halves.{division_val, val_zero}
use Rattle.amount.specs.Canonical.{last_digits}
use Rattle.amount.specs.Numbers.{val}
use Rattle.std.proofs.Common.{◌^◌, refl, ap, arith, rules}
use Rattle.amount.proofs.text.put_digits.Goals as goal

pub loop-rest-init : goal.loop-rest-init
loop-rest-init c = (search rules, refl, writing_none _ _ _)

pub returns-then-count-k-le9 : goal.returns-then-count-k-le9
returns-then-count-k-le9 c =
    writing_all _ (omega arith) (writing_more c.loop-rest.invariant.2 _ _ c.div_rem-d.result.rest refl (rest_digits _ (val c.loop-rest.rest) c.div_rem-d.ensures c.if-count-k-le9.true) _ c.put_word.ensures)

pub loop-rest-preserved : goal.loop-rest-preserved
loop-rest-preserved c = (
  search rules,
  search rules,
  writing_more c.loop-rest.invariant.2 9 _ c.div_rem-d.result.rest (division_val (val c.loop-rest.rest) (10 ^ 9) c.div_rem-d.ensures) (rest_digits 9 (val c.loop-rest.rest) c.div_rem-d.ensures (omega arith)) _ c.put_word-in-loop-rest.ensures,
)

pub returns : goal.returns
returns c =
    writing_all _ (omega arith) (writing_more c.loop-rest.invariant.2 _ _ c.loop-rest.rest.lo refl (ap (last_digits _) (val_zero c.loop-rest.rest (omega arith))) _ c.put_word-2.ensures)
