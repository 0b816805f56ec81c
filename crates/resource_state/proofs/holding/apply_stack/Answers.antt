use mathlib.Core.List.{[], ◌∷◌}
use Rattle.registry.specs.Tests.{in_text, in_amount}
use Rattle.resource_state.specs.Next.{given, stack_of}
use Rattle.resource_state.specs.Apply.{stack_next}
use Rattle.resource_state.specs.declared.Part.TheVariants.{Input}
use Rattle.resource_state.proofs.Laws.{made_with}
use Rattle.resource_state.proofs.holding.apply_stack.Goals as goal

pub returns-in-1 : goal.returns-in-1
unfolding stack_next
returns-in-1 c = rw c.in-1.is (made_with [] c.args.input.now (in_text 1 ∷ in_text 2 ∷ in_amount 3 ∷ []) (given 3) (stack_of (Input 1) (Input 2)) c.created.ensures c.stack.ensures)
