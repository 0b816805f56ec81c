use Rattle.std.proofs.Common.{arith}
use Rattle.tally.specs.Judging.Leads.{here, on}
use Rattle.tally.proofs.judge_all.Goals as goal

pub loop-judge-init : goal.loop-judge-init
loop-judge-init g c = record { led = here _; within = omega arith }

pub loop-judge-preserved : goal.loop-judge-preserved
loop-judge-preserved g c = record { led = on _ _ _ c.loop-judge.invariant.led c.in-Some.ensures.0; within = omega (arith, c.in-Some.ensures.1) }

pub loop-judge-preserved-in_ok-writeln : goal.loop-judge-preserved-in_ok-writeln
loop-judge-preserved-in_ok-writeln g c = record { led = on _ _ _ c.loop-judge.invariant.led c.in-Some.ensures.0; within = omega (arith, c.in-Some.ensures.1) }
