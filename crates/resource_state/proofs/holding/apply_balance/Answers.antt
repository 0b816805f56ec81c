use mathlib.Core.List.{[], ◌∷◌}
use Rattle.registry.specs.Tests.{born, in_text, in_amount, st_text}
use Rattle.resource_state.specs.Next.{given, the_difference, balance_of}
use Rattle.resource_state.specs.Apply.{lowering, balance_next}
use Rattle.resource_state.specs.declared.Part.TheVariants.{State, Input}
use Rattle.resource_state.proofs.Laws.{made_with}
use Rattle.resource_state.proofs.holding.apply_balance.Goals as goal

pub returns-in-11 : goal.returns-in-11
unfolding balance_next
returns-in-11 c = rw c.in-11.is (made_with [] c.args.input.now (in_text 1 ∷ in_text 2 ∷ in_amount 4 ∷ []) (given 4) (balance_of (Input 1) (Input 2)) c.created.ensures c.balance.ensures)

pub returns-in-20 : goal.returns-in-20
unfolding balance_next
returns-in-20 c = rw c.in-20.is (made_with c.args.state.now c.args.input.now (born ∷ st_text 1 ∷ in_text 9 ∷ lowering 4 7) (the_difference 4 7) (balance_of (State 1) (Input 9)) c.converted.ensures c.balance-in-20.ensures)
