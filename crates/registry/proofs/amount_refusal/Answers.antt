use Rattle.registry.specs.Helpers.{fault_in}
use Rattle.sheet.specs.Fields.{field}
use Rattle.registry.proofs.amount_refusal.Goals as goal

pub returns-in_default : goal.returns-in_default
unfolding fault_in field
returns-in_default c = rw (← c.find.ensures, c.in_default.is)

pub returns : goal.returns
unfolding field
returns c = rw (← c.find.ensures, c.in-Some.is, c.amount_fault.ensures)
