use Rattle.amount.proofs.Halves.{Whole}
use Rattle.amount.specs.Numbers.{val}
use Rattle.std.proofs.Common.{◌≡◌, ◌*◌, ◌^◌}
use Rattle.amount.proofs.checked_rescale.Given as goal

abbrev pub invariant-loop : goal.invariant-loop
invariant-loop l = (val l.number ≡ val l.initial.number * 10 ^ l.counter) × Whole l.number
