use Rattle.amount.proofs.Writing.{writing_none, writing_more, put_digit}
use Rattle.std.proofs.Common.{refl, arith}
use Rattle.amount.proofs.text.put_word.Goals as goal

pub loop-k-init : goal.loop-k-init
loop-k-init c = writing_none _ _ _

pub loop-k-preserved : goal.loop-k-preserved
loop-k-preserved c = writing_more c.loop-k.invariant 1 _ c.loop-k.rest refl refl _ (put_digit c.loop-k.out _ c.loop-k.rest (omega arith))
