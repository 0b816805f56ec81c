use Rattle.amount.proofs.Writing.{Writing}
use Rattle.amount.specs.Numbers.{val}
use Rattle.std.proofs.Common.{◌≡◌, ◌-◌, ◌≤◌, length}
use Rattle.amount.proofs.text.put_digits.Given as goal

abbrev pub invariant-loop-rest : goal.invariant-loop-rest
invariant-loop-rest l = (l.k ≤ l.count) × (length l.out ≡ length l.initial.out) × Writing l.initial.out l.at (val l.initial.rest) l.out (val l.rest) l.k

abbrev pub decreases-loop-rest : goal.decreases-loop-rest
decreases-loop-rest l = l.count - l.k
