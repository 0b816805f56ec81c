use Rattle.std.proofs.Common.{rules, tests, arith}
use Rattle.steps.specs.Turn.{authorized}
use Rattle.steps.proofs.act.require_authorized.Goals as goal

pub returns-in-12 : goal.returns-in-12
unfolding authorized
returns-in-12 c = grind (arith, rules, tests)

pub returns-in_default : goal.returns-in_default
unfolding authorized
returns-in_default c = search (rules, tests)
