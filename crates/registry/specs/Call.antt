-- Document 01, section "Operations", refusals 1 to 4: what every call tests first.
use Rattle.std.specs.Prelude.{Bool, cond, ◌&&◌, List, ℕ, eqb, leb, Ok, Err}
use Rattle.sheet.specs.Sheet.{state_of, sound_as}
use Rattle.sheet.specs.declared.Shape.TheVariants.{Input}
use Rattle.sheet.specs.declared.State.{State}
use Rattle.registry.specs.Tests.{◌then◌}
use Rattle.registry.specs.declared.error.ProfileError.TheVariants.{TornState, TornInput, UnknownProfile, UnknownOperation}
use Rattle.registry.specs.Refusals.{Outcome}

-- 1, of the source (1) or the destination (2)
abbrev pub state_sound : ℕ → State → Outcome
state_sound which State.Absent = Ok tt
state_sound which State.Stack = Ok tt
state_sound which State.Balance = Ok tt
state_sound which State.Meter = Ok tt
state_sound which State.Torn = Err (TornState which)

-- 2
abbrev pub input_sound : Bool → Outcome
input_sound sound = cond sound (Ok tt) (Err TornInput)

-- the profile that an operation is of; 0 for none
abbrev pub profile_of : ℕ → ℕ
profile_of op = cond (leb 1 op && leb op 9) 1 (cond (leb 11 op && leb op 20) 2 (cond (leb 21 op && leb op 26) 3 0))

-- 3, then 4
unfoldable pub operation_of : ℕ → ℕ → Outcome
operation_of profile op =
    cond (leb 1 profile && leb profile 3) (cond (eqb (profile_of op) profile) (Ok tt) (Err UnknownOperation)) (Err UnknownProfile)

-- what every call on a state and an input tests first
unfoldable pub called : ℕ → ℕ → List ℕ → List ℕ → Outcome
called profile op s i = state_sound 1 (state_of s) then input_sound (sound_as Input i) then operation_of profile op
