use Rattle.std.proofs.Common.{rules, tests, arith}
use Rattle.book.specs.Steps.{acts, adds, doing}
use Rattle.steps.specs.Turn.{doing_of}
use Rattle.steps.proofs.act.doing_of.Goals as goal

pub returns-in-12 : goal.returns-in-12
unfolding doing_of acts adds doing
returns-in-12 c = grind (arith, rules, tests)

pub returns-in-14 : goal.returns-in-14
unfolding doing_of acts adds doing
returns-in-14 c = grind (arith, rules, tests)

pub returns-in-14-2 : goal.returns-in-14-2
unfolding doing_of acts adds doing
returns-in-14-2 c = grind (arith, rules, tests)

pub returns-in-16 : goal.returns-in-16
unfolding doing_of acts adds doing
returns-in-16 c = grind (arith, rules, tests)

pub returns-in-17 : goal.returns-in-17
unfolding doing_of acts adds doing
returns-in-17 c = grind (arith, rules, tests)

pub returns-in_default : goal.returns-in_default
unfolding doing_of acts adds doing
returns-in_default c = grind (arith, rules, tests)

pub returns-in_default-2 : goal.returns-in_default-2
unfolding doing_of acts adds doing
returns-in_default-2 c = grind (arith, rules, tests)

pub returns-in_default-3 : goal.returns-in_default-3
unfolding doing_of acts adds doing
returns-in_default-3 c = grind (arith, rules, tests)
