use mathlib.Core.Path.{refl}
use mathlib.Core.List.{[], ◌∷◌, ◌++◌}
use Rattle.registry.specs.Tests.{born, in_text, in_amount, st_text}
use Rattle.resource_state.specs.Next.{zero, given, the_sum, the_difference, stack_of}
use Rattle.resource_state.specs.Apply.{holding, raising, lowering, stack_next}
use Rattle.resource_state.specs.declared.Part.TheVariants.{State}
use Rattle.resource_state.proofs.Laws.{made_with}
use Rattle.resource_state.proofs.holding.next_quantity.Goals as goal

pub returns-in-2 : goal.returns-in-2
unfolding stack_next
returns-in-2 c h = rw c.in-2.is (made_with c.args.state.now c.args.input.now (holding ++ raising 3 3) (the_sum 3 3) (stack_of (State 1) (State 2)) c.credited.ensures refl)

pub returns-in-3 : goal.returns-in-3
unfolding stack_next
returns-in-3 c h = rw c.in-3.is (made_with c.args.state.now c.args.input.now (holding ++ lowering 3 3) (the_difference 3 3) (stack_of (State 1) (State 2)) c.debited.ensures refl)

pub returns-in-4 : goal.returns-in-4
unfolding stack_next
returns-in-4 c h = rw c.in-4.is (made_with c.args.state.now c.args.input.now (holding ++ lowering 3 3) (the_difference 3 3) (stack_of (State 1) (State 2)) c.debited-in-4.ensures refl)

pub returns-in-5 : goal.returns-in-5
unfolding stack_next
returns-in-5 c h = rw c.in-5.is (made_with c.args.state.now c.args.input.now (born ∷ in_text 8 ∷ st_text 1 ∷ st_text 2 ∷ lowering 3 3) (the_difference 3 3) (stack_of (State 1) (State 2)) c.transferred.ensures refl)

pub returns-in-6 : goal.returns-in-6
unfolding stack_next
returns-in-6 c h = rw c.in-6.is (made_with c.args.state.now c.args.input.now (holding ++ lowering 3 3) (the_difference 3 3) (stack_of (State 1) (State 2)) c.debited-in-6.ensures refl)

pub returns-in-7 : goal.returns-in-7
unfolding stack_next
returns-in-7 c h = rw c.in-7.is (made_with c.args.state.now c.args.input.now (holding ++ raising 3 3) (the_sum 3 3) (stack_of (State 1) (State 2)) c.credited-in-7.ensures refl)

pub returns-in-8 : goal.returns-in-8
unfolding stack_next
returns-in-8 c h = rw c.in-8.is (made_with c.args.state.now [] holding zero (stack_of (State 1) (State 2)) c.expired.ensures refl)

pub returns-in-9 : goal.returns-in-9
unfolding stack_next
returns-in-9 c h = rw c.in-9.is (made_with c.args.state.now c.args.input.now (holding ++ (in_amount 3 ∷ [])) (given 3) (stack_of (State 1) (State 2)) c.adjusted.ensures refl)
