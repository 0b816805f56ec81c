-- Nothing is made of what was not read: each row of apply tests every text and amount that its next state is made of.
use mathlib.Core.Path.{◌≡◌, refl}
use mathlib.Core.Bool.{Bool, true, false, ◌&&◌, ◌||◌}
use mathlib.Core.List.{List, [], ◌∷◌, ◌++◌, map}
use Prim.Native.Nat.{ℕ}
use lib.Dec.{eqb}
use Rattle.registry.specs.Tests.{Test, unborn, born, in_text, in_amount, st_text, st_amount, positive, available, up_to_maximum, can_add, can_subtract}
use Rattle.resource_state.specs.Next.{Gives, zero, given, kept, the_sum, the_difference, lesser, Makes, a_stack, a_balance, a_meter, ApplyRow}
use Rattle.resource_state.specs.Apply.{stack_applies, balance_applies, meter_applies}
use Rattle.resource_state.specs.declared.Part.{Part}

-- a test as three numbers: which it is, and the names that it speaks of
abbrev pub code : Test → ℕ × (ℕ × ℕ)
code unborn = (0, (0, 0))
code born = (1, (0, 0))
code (in_text n) = (2, (n, 0))
code (in_amount n) = (3, (n, 0))
code (st_text n) = (4, (n, 0))
code (st_amount n) = (5, (n, 0))
code (positive n) = (6, (n, 0))
code (available h a) = (7, (h, a))
code (up_to_maximum n m) = (8, (n, m))
code (can_add h a) = (9, (h, a))
code (can_subtract h a) = (10, (h, a))

abbrev pub same : ℕ × (ℕ × ℕ) → ℕ × (ℕ × ℕ) → Bool
same x y = eqb x.0 y.0 && eqb x.1.0 y.1.0 && eqb x.1.1 y.1.1

-- the test is one of the list
abbrev pub tests : List Test → Test → Bool
tests [] t = false
tests (x ∷ xs) t = same (code x) (code t) || tests xs t

abbrev pub reads_part : List Test → Part → Bool
reads_part ts (Part.State n) = tests ts (st_text n)
reads_part ts (Part.Input n) = tests ts (in_text n)

-- zero is made of nothing
abbrev pub reads_amount : List Test → Gives → Bool
reads_amount ts zero = true
reads_amount ts (given a) = tests ts (in_amount a)
reads_amount ts (kept h) = tests ts (st_amount h)
reads_amount ts (the_sum h a) = tests ts (st_amount h) && tests ts (in_amount a) && tests ts (can_add h a)
reads_amount ts (the_difference h a) = tests ts (st_amount h) && tests ts (in_amount a) && tests ts (can_subtract h a)
reads_amount ts (lesser a h) = tests ts (in_amount a) && tests ts (st_amount h)

abbrev pub reads : List Test → Makes → Bool
reads ts (a_stack subject unit quantity) = reads_part ts subject && reads_part ts unit && reads_amount ts quantity
reads ts (a_balance subject unit balance) = reads_part ts subject && reads_part ts unit && reads_amount ts balance
reads ts (a_meter subject remaining maximum) = reads_part ts subject && reads_amount ts remaining && reads_amount ts maximum

abbrev pub covered : ApplyRow → Bool
covered r = reads r.tests r.makes

-- six rows of stacks, five of balances, five of meters
pub each_row_reads_what_it_makes : map covered (stack_applies ++ balance_applies ++ meter_applies)
    ≡ true ∷ true ∷ true ∷ true ∷ true ∷ true ∷ true ∷ true ∷ true ∷ true ∷ true ∷ true ∷ true ∷ true ∷ true ∷ true ∷ []
each_row_reads_what_it_makes = refl
