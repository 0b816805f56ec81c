use Rattle.writer.specs.Encode.{stack_sheet, balance_sheet}
use Rattle.transition.proofs.Lengths.{sheet_fits, put_fits}
use Rattle.resource_state.specs.declared.ResourceState.TheVariants.{ConsumableStack, FungibleBalance, MeteredResource}
use Rattle.transition.specs.Written.{put_of}
use Rattle.resource_state.specs.Next.{sheet_of}
use mathlib.Core.Path.{ap, ◌∙◌}
use Rattle.transition.proofs.put.Goals as goal

pub fitted-requires : goal.fitted-requires
unfolding sheet_of stack_sheet
fitted-requires c = rw (c.put_holding.ensures.0, c.part_text-subject.ensures, c.part_text-unit.ensures) (put_fits _ _ (sheet_fits _ _ (ConsumableStack c.in-ConsumableStack.n) c.requires.0 c.requires.1))

pub fitted-requires-in-FungibleBalance : goal.fitted-requires-in-FungibleBalance
unfolding sheet_of balance_sheet
fitted-requires-in-FungibleBalance c = rw (c.put_holding-in-FungibleBalance.ensures.0, c.part_text-subject-in-FungibleBalance.ensures, c.part_text-unit-in-FungibleBalance.ensures) (put_fits _ _ (sheet_fits _ _ (FungibleBalance c.in-FungibleBalance.n) c.requires.0 c.requires.1))

pub fitted-requires-in-MeteredResource : goal.fitted-requires-in-MeteredResource
unfolding sheet_of
fitted-requires-in-MeteredResource c = rw (c.put_meter.ensures.0, c.part_text-subject-in-MeteredResource.ensures) (put_fits _ _ (sheet_fits _ _ (MeteredResource c.in-MeteredResource.n) c.requires.0 c.requires.1))

pub returns-in-ConsumableStack : goal.returns-in-ConsumableStack
unfolding sheet_of stack_sheet
returns-in-ConsumableStack c = (rw (c.in-ConsumableStack.is, ← c.part_text-subject.ensures, ← c.part_text-unit.ensures) (c.fitted.ensures ∙ ap put_of c.put_holding.ensures.0), rw (c.in-ConsumableStack.is, ← c.part_text-subject.ensures, ← c.part_text-unit.ensures) c.put_holding.ensures.1)

pub returns-in-FungibleBalance : goal.returns-in-FungibleBalance
unfolding sheet_of balance_sheet
returns-in-FungibleBalance c = (rw (c.in-FungibleBalance.is, ← c.part_text-subject-in-FungibleBalance.ensures, ← c.part_text-unit-in-FungibleBalance.ensures) (c.fitted-in-FungibleBalance.ensures ∙ ap put_of c.put_holding-in-FungibleBalance.ensures.0), rw (c.in-FungibleBalance.is, ← c.part_text-subject-in-FungibleBalance.ensures, ← c.part_text-unit-in-FungibleBalance.ensures) c.put_holding-in-FungibleBalance.ensures.1)

pub returns-in-MeteredResource : goal.returns-in-MeteredResource
unfolding sheet_of
returns-in-MeteredResource c = (rw (c.in-MeteredResource.is, ← c.part_text-subject-in-MeteredResource.ensures) (c.fitted-in-MeteredResource.ensures ∙ ap put_of c.put_meter.ensures.0), rw (c.in-MeteredResource.is, ← c.part_text-subject-in-MeteredResource.ensures) c.put_meter.ensures.1)
