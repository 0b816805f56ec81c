use mathlib.Core.List.{[]}
use Rattle.profiles.specs.Meter.{meter_rules}
use Rattle.profiles.proofs.meter.check.Goals as goal

pub returns-in-23 : goal.returns-in-23
unfolding meter_rules
returns-in-23 c = rw c.in-23.is (c.check_refill.ensures [])
