use Rattle.amount.proofs.Widths.{counting_none, counting_room, counting_more}
use Rattle.amount.proofs.Assembling.{width_few}
use Rattle.amount.proofs.Halves.{whole_of, val_wide, val_zero, division_val}
use Rattle.amount.specs.Numbers.{val}
use Rattle.std.proofs.Common.{◌^◌, sym, arith}
use Rattle.amount.proofs.text.width.Goals as goal

pub loop-rest-init : goal.loop-rest-init
loop-rest-init c = counting_none _ (whole_of _ (omega arith) (omega arith)).fits

pub overflow_add-count : goal.overflow_add-count
overflow_add-count c = record { fits = omega (arith, counting_room c.loop-rest.invariant) }

pub loop-rest-smaller : goal.loop-rest-smaller
loop-rest-smaller c = omega (arith, counting_room c.loop-rest.invariant)

pub loop-rest-preserved : goal.loop-rest-preserved
loop-rest-preserved c =
    rw (division_val (val c.loop-rest.rest) (10 ^ 9) c.div_rem-d.ensures) (counting_more c.loop-rest.invariant 9 (val_wide c.loop-rest.rest c.loop-rest-test.true))

pub overflow_add-result : goal.overflow_add-result
overflow_add-result c =
    record { fits = omega (arith, counting_room c.loop-rest.invariant, c.word_width.ensures, width_few c.loop-rest.rest.lo) }

pub returns : goal.returns
returns c =
    rw (c.word_width.ensures, val_zero c.loop-rest.rest (omega arith)) (sym c.loop-rest.invariant.total)
