use Rattle.amount.proofs.Scaling.{quotient_more, ten_pos}
use Rattle.amount.proofs.Halves.{division_val}
use Rattle.std.proofs.Common.{◌∙◌, arith, rules}
use Rattle.amount.proofs.text.whole_part.Goals as goal

pub loop-left-preserved : goal.loop-left-preserved
loop-left-preserved c = (search rules, division_val _ _ c.div_rem.ensures ∙ quotient_more _ _ 9 _ (omega arith) c.loop-left.invariant.1)

pub div_rem-requires-2 : goal.div_rem-requires-2
div_rem-requires-2 c = rw c.power_of_ten.ensures (ten_pos _)

pub returns : goal.returns
returns c =
    let e = rw c.power_of_ten.ensures at c.div_rem-2.ensures in
    division_val _ _ e ∙ quotient_more _ _ _ _ (omega arith) c.loop-left.invariant.1
