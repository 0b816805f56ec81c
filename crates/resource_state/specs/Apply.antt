-- Document 01, section "Operations", Apply: each operation's reads in the document's order, and what it makes.
use Rattle.std.specs.Prelude.{cond, List, [], ◌∷◌, ◌++◌, ℕ, eqb}
use Rattle.sheet.specs.Fields.{Field, field, Sight, sight_of, subject, unit, quantity, balance, remaining, maximum, amount, to_subject, to_unit}
use Rattle.registry.specs.Readers.{amount_in}
use Rattle.registry.specs.Tests.{Test, born, in_text, in_amount, st_text, st_amount, can_add, can_subtract}
use Rattle.registry.specs.Call.{called}
use Rattle.registry.specs.Refusals.{Reading}
use Rattle.resource_state.specs.Next.{Gives, zero, given, kept, the_sum, the_difference, lesser, Makes, a_stack, a_balance, a_meter, ApplyRow, apply_row, unless_refused, applied, Next}
use Rattle.resource_state.specs.declared.Part.TheVariants.{State, Input}

-- born, st subject, st unit
abbrev pub holding : List Test
holding = born ∷ st_text subject ∷ st_text unit ∷ []

-- st held, in asked, then 17 or 18
abbrev pub raising : ℕ → ℕ → List Test
raising held asked = st_amount held ∷ in_amount asked ∷ can_add held asked ∷ []

abbrev pub lowering : ℕ → ℕ → List Test
lowering held asked = st_amount held ∷ in_amount asked ∷ can_subtract held asked ∷ []

-- the state with another amount
abbrev pub stack_with : Gives → Makes
stack_with = a_stack (State subject) (State unit)

abbrev pub balance_with : Gives → Makes
balance_with = a_balance (State subject) (State unit)

abbrev pub stack_applies : List ApplyRow
stack_applies =
    apply_row (1 ∷ []) (in_text subject ∷ in_text unit ∷ in_amount quantity ∷ []) (a_stack (Input subject) (Input unit) (given quantity))
    ∷ apply_row (2 ∷ 7 ∷ []) (holding ++ raising quantity quantity) (stack_with (the_sum quantity quantity))
    ∷ apply_row (3 ∷ 4 ∷ 6 ∷ []) (holding ++ lowering quantity quantity) (stack_with (the_difference quantity quantity))
    ∷ apply_row (5 ∷ []) (born ∷ in_text to_subject ∷ st_text subject ∷ st_text unit ∷ lowering quantity quantity) (stack_with (the_difference quantity quantity))
    ∷ apply_row (8 ∷ []) holding (stack_with zero)
    ∷ apply_row (9 ∷ []) (holding ++ (in_amount quantity ∷ [])) (stack_with (given quantity))
    ∷ []

abbrev pub balance_applies : List ApplyRow
balance_applies =
    apply_row (11 ∷ []) (in_text subject ∷ in_text unit ∷ in_amount balance ∷ []) (a_balance (Input subject) (Input unit) (given balance))
    ∷ apply_row (12 ∷ 13 ∷ 17 ∷ []) (holding ++ raising balance amount) (balance_with (the_sum balance amount))
    ∷ apply_row (14 ∷ 16 ∷ 18 ∷ 19 ∷ []) (holding ++ lowering balance amount) (balance_with (the_difference balance amount))
    ∷ apply_row (15 ∷ []) (born ∷ in_text to_subject ∷ st_text subject ∷ st_text unit ∷ lowering balance amount) (balance_with (the_difference balance amount))
    ∷ apply_row (20 ∷ []) (born ∷ st_text subject ∷ in_text to_unit ∷ lowering balance amount)
    (a_balance (State subject) (Input to_unit) (the_difference balance amount))
    ∷ []

-- born, st subject, st maximum
abbrev pub metering : List Test
metering = born ∷ st_text subject ∷ st_amount maximum ∷ []

abbrev pub meter_applies : List ApplyRow
meter_applies =
    apply_row (21 ∷ []) (in_text subject ∷ in_amount remaining ∷ in_amount maximum ∷ []) (a_meter (Input subject) (given remaining) (given maximum))
    ∷ apply_row (22 ∷ []) (metering ++ lowering remaining amount)
    (a_meter (State subject) (the_difference remaining amount) (kept maximum))
    ∷ apply_row (23 ∷ []) metering (a_meter (State subject) (kept maximum) (kept maximum))
    ∷ apply_row (24 ∷ []) (born ∷ st_text subject ∷ st_amount remaining ∷ in_amount maximum ∷ []) (a_meter (State subject) (lesser maximum remaining) (given maximum))
    ∷ apply_row (25 ∷ 26 ∷ []) metering (a_meter (State subject) zero (kept maximum))
    ∷ []

unfoldable pub stack_next : (ℕ → Field → Reading) → Sight → (ℕ → Field) → ℕ → Next
stack_next read st inp op = applied read st inp op stack_applies

unfoldable pub balance_next : (ℕ → Field → Reading) → Sight → (ℕ → Field) → ℕ → Next
balance_next read st inp op = applied read st inp op balance_applies

unfoldable pub meter_next : (ℕ → Field → Reading) → Sight → (ℕ → Field) → ℕ → Next
meter_next read st inp op = applied read st inp op meter_applies

abbrev pub next_by : ℕ → ℕ → Sight → (ℕ → Field) → Next
next_by profile op st inp =
    cond (eqb profile 1) (stack_next amount_in st inp op)
    (cond (eqb profile 2) (balance_next amount_in st inp op) (meter_next amount_in st inp op))

-- APPLY: 1, 2, 3, 4, then the list
unfoldable pub next_of : ℕ → ℕ → List ℕ → List ℕ → Next
next_of profile op s i = unless_refused (called profile op s i) (next_by profile op (sight_of s) (field i))
