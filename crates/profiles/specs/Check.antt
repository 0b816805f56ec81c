-- Document 01, section "Operations", Check and the order of refusals: 1, 2, 3, 4, then the lists.
use Rattle.std.specs.Prelude.{cond, List, ℕ, eqb}
use Rattle.sheet.specs.Fields.{Field, field, Sight, sight_of}
use Rattle.registry.specs.Readers.{amount_in}
use Rattle.registry.specs.Tests.{◌then◌}
use Rattle.registry.specs.Call.{called}
use Rattle.registry.specs.Refusals.{Outcome}
use Rattle.profiles.specs.Stack.{stack_rules}
use Rattle.profiles.specs.Balance.{balance_rules}
use Rattle.profiles.specs.Meter.{meter_rules}

-- the lists of a profile
abbrev pub rules : ℕ → ℕ → Sight → (ℕ → Field) → Outcome
rules profile op st inp =
    cond (eqb profile 1) (stack_rules amount_in st inp op)
    (cond (eqb profile 2) (balance_rules amount_in st inp op) (meter_rules amount_in st inp op))

-- CHECK
unfoldable pub check_of : ℕ → ℕ → List ℕ → List ℕ → Outcome
check_of profile op s i = called profile op s i then rules profile op (sight_of s) (field i)
