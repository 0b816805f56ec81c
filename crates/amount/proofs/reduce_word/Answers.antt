use Rattle.amount.proofs.Scaling.{word_none, word_all, ten_pos}
use Rattle.amount.proofs.Halves.{word_quotient, word_rest}
use Rattle.std.proofs.Common.{arith}
use Rattle.amount.proofs.reduce_word.Goals as goal

pub returns-then-places-gt19 : goal.returns-then-places-gt19
returns-then-places-gt19 c =
    λ n j h. c.reduced_to.ensures n j c.args.places h (word_none c.args.r.quotient c.args.places c.requires (omega arith) c.if-places-gt19.true) (word_all c.args.r.quotient c.args.places c.requires (omega arith) c.if-places-gt19.true)

pub nonzero_div-quotient : goal.nonzero_div-quotient
nonzero_div-quotient c = rw c.power_of_ten-power.ensures (ten_pos _)

pub nonzero_rem-word : goal.nonzero_rem-word
nonzero_rem-word c = rw c.power_of_ten-power.ensures (ten_pos _)

pub returns : goal.returns
returns c =
    λ n j h. c.reduced_to-2.ensures n j _ h (rw c.power_of_ten-power.ensures (word_quotient c.args.r.quotient _ c.requires)) (rw c.power_of_ten-power.ensures (word_rest c.args.r.quotient _ c.requires))
