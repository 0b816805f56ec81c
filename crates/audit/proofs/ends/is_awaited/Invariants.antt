use Rattle.std.proofs.Common.{◌≡◌, false}
use Rattle.audit.proofs.Naming.{named_before}
use Rattle.audit.proofs.ends.is_awaited.Given as goal

abbrev pub invariant-loop-t : goal.invariant-loop-t
invariant-loop-t l = named_before l.book l.place l.t ≡ false
