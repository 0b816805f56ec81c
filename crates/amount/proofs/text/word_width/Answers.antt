use Rattle.amount.proofs.Widths.{counting_none, counting_room, counting_more, counting_end}
use Rattle.amount.proofs.Halves.{word_fits}
use Rattle.std.proofs.Common.{arith, rules}
use Rattle.amount.proofs.text.word_width.Goals as goal

pub loop-rest-init : goal.loop-rest-init
loop-rest-init c = counting_none _ (word_fits _ (search rules))

pub overflow_add-count : goal.overflow_add-count
overflow_add-count c = record { fits = omega (arith, counting_room c.loop-rest.invariant) }

pub loop-rest-smaller : goal.loop-rest-smaller
loop-rest-smaller c = omega (arith, counting_room c.loop-rest.invariant)

pub loop-rest-preserved : goal.loop-rest-preserved
loop-rest-preserved c = counting_more c.loop-rest.invariant 9 c.loop-rest-test.true

pub overflow_add-count-in-loop-rest-2 : goal.overflow_add-count-in-loop-rest-2
overflow_add-count-in-loop-rest-2 c = record { fits = omega (arith, counting_room c.loop-rest-2.invariant) }

pub loop-rest-2-smaller : goal.loop-rest-2-smaller
loop-rest-2-smaller c = omega (arith, counting_room c.loop-rest-2.invariant)

pub loop-rest-2-preserved : goal.loop-rest-2-preserved
loop-rest-2-preserved c = counting_more c.loop-rest-2.invariant 1 c.loop-rest-2-test.true

pub overflow_add-result : goal.overflow_add-result
overflow_add-result c = record { fits = omega (arith, counting_room c.loop-rest-2.invariant) }

pub returns : goal.returns
returns c = counting_end c.loop-rest-2.invariant c.loop-rest-2-test.false
