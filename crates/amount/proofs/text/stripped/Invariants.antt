use Rattle.amount.proofs.Stripping.{Strips}
use Rattle.amount.specs.Canonical.{strip}
use Rattle.amount.specs.Numbers.{val}
use Rattle.amount.proofs.text.stripped.Given as goal

abbrev pub invariant-loop-scale : goal.invariant-loop-scale
invariant-loop-scale l = Strips (strip l.initial.scale (val l.initial.mantissa)) l.mantissa l.scale

abbrev pub decreases-loop-scale : goal.decreases-loop-scale
decreases-loop-scale l = l.scale
