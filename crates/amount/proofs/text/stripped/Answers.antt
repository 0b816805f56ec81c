use Rattle.amount.proofs.Stripping.{strip_zero, strips_end, strips_stop, strips_more}
use Rattle.amount.proofs.Halves.{whole_of}
use Rattle.std.proofs.Common.{refl, arith}
use Rattle.amount.proofs.text.stripped.Goals as goal

pub returns-then-is_zero : goal.returns-then-is_zero
returns-then-is_zero c = strip_zero _ _ c.is_zero.ensures c.if-is_zero.true

pub loop-scale-init : goal.loop-scale-init
loop-scale-init c = record { same = refl; whole = whole_of _ (omega arith) (omega arith) }

pub returns-then-d-ne0 : goal.returns-then-d-ne0
returns-then-d-ne0 c = strips_stop c.loop-scale.invariant (omega arith) _ c.div_rem-d.ensures c.if-d-ne0.true

pub loop-scale-preserved : goal.loop-scale-preserved
loop-scale-preserved c = strips_more c.loop-scale.invariant (omega arith) _ c.div_rem-d.ensures c.if-d-ne0.false

pub returns : goal.returns
returns c = strips_end c.loop-scale.invariant (omega arith)
