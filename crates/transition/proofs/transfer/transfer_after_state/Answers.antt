use Rattle.transition.specs.Credit.{credit_by}
use Rattle.resource_state.specs.Next.{with_amount}
use borrow.Author.Tests.{eq-eqb, ne_eqb}
use mathlib.Core.Path.{ap, ◌∙◌}
use Rattle.transition.proofs.transfer.transfer_after_state.Goals as goal

pub returns-then-operation-eq-STACK_TRANSFER : goal.returns-then-operation-eq-STACK_TRANSFER
unfolding credit_by
returns-then-operation-eq-STACK_TRANSFER c = rw (eq-eqb _ 5 c.if-operation-eq-STACK_TRANSFER.true) (c.stack.ensures ∙ ap (λ q. with_amount q _) c.credited_amount.ensures)

pub returns-then-operation-eq-BALANCE_TRANSFER : goal.returns-then-operation-eq-BALANCE_TRANSFER
unfolding credit_by
returns-then-operation-eq-BALANCE_TRANSFER c = rw (ne_eqb _ 5 c.if-operation-eq-STACK_TRANSFER.false, eq-eqb _ 15 c.if-operation-eq-BALANCE_TRANSFER.true) (c.balance.ensures ∙ ap (λ q. with_amount q _) c.credited_amount-then-operation-eq-BALANCE_TRANSFER.ensures)

pub returns : goal.returns
unfolding credit_by
returns c = rw (ne_eqb _ 5 c.if-operation-eq-STACK_TRANSFER.false, ne_eqb _ 15 c.if-operation-eq-BALANCE_TRANSFER.false)
