use mathlib.Core.Path.{refl}
use mathlib.Core.List.{◌∷◌, ◌++◌}
use Rattle.registry.specs.Tests.{born, in_text, st_text}
use Rattle.resource_state.specs.Next.{the_sum, the_difference, balance_of}
use Rattle.resource_state.specs.Apply.{holding, raising, lowering, balance_next}
use Rattle.resource_state.specs.declared.Part.TheVariants.{State}
use Rattle.resource_state.proofs.Laws.{made_with}
use Rattle.resource_state.proofs.holding.next_balance.Goals as goal

pub returns-in-12 : goal.returns-in-12
unfolding balance_next
returns-in-12 c h = rw c.in-12.is (made_with c.args.state.now c.args.input.now (holding ++ raising 4 7) (the_sum 4 7) (balance_of (State 1) (State 2)) c.credited.ensures refl)

pub returns-in-13 : goal.returns-in-13
unfolding balance_next
returns-in-13 c h = rw c.in-13.is (made_with c.args.state.now c.args.input.now (holding ++ raising 4 7) (the_sum 4 7) (balance_of (State 1) (State 2)) c.credited-in-13.ensures refl)

pub returns-in-14 : goal.returns-in-14
unfolding balance_next
returns-in-14 c h = rw c.in-14.is (made_with c.args.state.now c.args.input.now (holding ++ lowering 4 7) (the_difference 4 7) (balance_of (State 1) (State 2)) c.debited.ensures refl)

pub returns-in-15 : goal.returns-in-15
unfolding balance_next
returns-in-15 c h = rw c.in-15.is (made_with c.args.state.now c.args.input.now (born ∷ in_text 8 ∷ st_text 1 ∷ st_text 2 ∷ lowering 4 7) (the_difference 4 7) (balance_of (State 1) (State 2)) c.transferred.ensures refl)

pub returns-in-16 : goal.returns-in-16
unfolding balance_next
returns-in-16 c h = rw c.in-16.is (made_with c.args.state.now c.args.input.now (holding ++ lowering 4 7) (the_difference 4 7) (balance_of (State 1) (State 2)) c.debited-in-16.ensures refl)

pub returns-in-17 : goal.returns-in-17
unfolding balance_next
returns-in-17 c h = rw c.in-17.is (made_with c.args.state.now c.args.input.now (holding ++ raising 4 7) (the_sum 4 7) (balance_of (State 1) (State 2)) c.credited-in-17.ensures refl)

pub returns-in-18 : goal.returns-in-18
unfolding balance_next
returns-in-18 c h = rw c.in-18.is (made_with c.args.state.now c.args.input.now (holding ++ lowering 4 7) (the_difference 4 7) (balance_of (State 1) (State 2)) c.debited-in-18.ensures refl)

pub returns-in-19 : goal.returns-in-19
unfolding balance_next
returns-in-19 c h = rw c.in-19.is (made_with c.args.state.now c.args.input.now (holding ++ lowering 4 7) (the_difference 4 7) (balance_of (State 1) (State 2)) c.debited-in-19.ensures refl)
