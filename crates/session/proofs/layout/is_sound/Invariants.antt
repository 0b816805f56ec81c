use Prim.Native.Nat.{◌≤◌, ◌+◌, ◌*◌}
use Rattle.session.proofs.Walking.{Walked}
use Rattle.session.proofs.layout.is_sound.Given as goal

abbrev pub invariant-loop-k : goal.invariant-loop-k
invariant-loop-k l = (l.at ≤ 2 + 8 * l.n + 65535 * l.k) × Walked l.s l.at l.k
