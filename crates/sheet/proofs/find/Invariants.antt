use mathlib.Core.Path.{◌≡◌}
use Prim.Native.Nat.{◌-◌}
use Rattle.sheet.specs.Sheet.{count, lookup, table, entries_from}
use Rattle.sheet.proofs.find.Given as goal

abbrev pub invariant-loop-name : goal.invariant-loop-name
invariant-loop-name l = lookup l.name (table l.s) ≡ lookup l.name (entries_from l.s l.k (count l.s - l.k))

abbrev pub decreases-loop-name : goal.decreases-loop-name
decreases-loop-name l = count l.s - l.k
