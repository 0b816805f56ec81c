use Rattle.amount.proofs.Reading.{word_start, word_not, word_room, word_more, word_end}
use Rattle.std.proofs.Common.{sym, ◌∙◌, arith}
use Rattle.amount.proofs.word_of.Goals as goal

pub loop-byte-init : goal.loop-byte-init
loop-byte-init c = word_start _

pub returns-then-not-is_ascii_digit : goal.returns-then-not-is_ascii_digit
returns-then-not-is_ascii_digit c = word_not c.loop-byte.invariant (omega arith) (sym c.is_ascii_digit.ensures.value ∙ c.if-not-is_ascii_digit.true)

pub overflow_mul-number : goal.overflow_mul-number
overflow_mul-number c = record { fits = omega (arith, word_room c.loop-byte.invariant (omega arith)) }

pub overflow_add-number : goal.overflow_add-number
overflow_add-number c = record { fits = omega (arith, word_room c.loop-byte.invariant (omega arith)) }

pub loop-byte-preserved : goal.loop-byte-preserved
loop-byte-preserved c = word_more c.loop-byte.invariant (omega arith) (sym c.is_ascii_digit.ensures.value ∙ c.if-not-is_ascii_digit.false)

pub returns : goal.returns
returns c = word_end c.loop-byte.invariant (omega arith)
