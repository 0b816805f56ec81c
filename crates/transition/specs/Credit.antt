-- Document 01, section "Operations", Credit: the far end of a transfer. `State` is a field of the source.
use Rattle.std.specs.Prelude.{cond, List, [], ◌∷◌, ℕ, eqb, Ok, Err}
use Rattle.amount.specs.declared.Amount.{Amount}
use Rattle.sheet.specs.Sheet.{state_of, sound_as}
use Rattle.sheet.specs.Fields.{Field, field, Sight, sight_of, unit, quantity, balance, amount, to_subject}
use Rattle.sheet.specs.declared.Shape.TheVariants as Shape
use Rattle.registry.specs.Refusals.{zero_amount, Outcome, Reading}
use Rattle.registry.specs.Readers.{amount_in, amount_of, read_amount}
use Rattle.registry.specs.Tests.{Test, ◌then◌, born, in_text, in_amount, st_text, first, plus}
use Rattle.registry.specs.Call.{state_sound, input_sound}
use Rattle.registry.specs.declared.error.ProfileError.TheVariants.{NoCredit}
use Rattle.resource_state.specs.Next.{stack_of, balance_of, unless_refused, with_amount, Next}
use Rattle.resource_state.specs.declared.Part.TheVariants.{State, Input}
use Rattle.resource_state.specs.declared.ResourceState.{ResourceState}

-- an absent source is 6; in to_subject, source unit, in quantity or amount
abbrev pub crediting : ℕ → List Test
crediting asked = born ∷ in_text to_subject ∷ st_text unit ∷ in_amount asked ∷ []

-- destination quantity or balance, zero if absent
abbrev pub existing : ℕ → Sight → Reading
existing held destination = cond destination.there (amount_of held (destination.at held)) (Ok zero_amount)

-- an amount, where the tests are passed
abbrev pub unless_failed_by : Outcome → Reading → Reading
unless_failed_by (Ok _) r = r
unless_failed_by (Err e) r = Err e

-- what is there, and the amount more
abbrev pub with_more : Reading → Amount → Reading
with_more (Ok held) a = plus held a
with_more (Err e) a = Err e

-- the new subject is to_subject, the new unit the source's, the kind the operation's
abbrev pub credited_stack : Amount → ResourceState
credited_stack = stack_of (Input to_subject) (State unit)

abbrev pub credited_balance : Amount → ResourceState
credited_balance = balance_of (Input to_subject) (State unit)

module _ (read : ℕ → Field → Reading) (source destination : Sight) (inp : ℕ → Field) where
  abbrev pub credited_amount : ℕ → ℕ → Reading
  credited_amount held asked =
      unless_failed_by (first read source inp (crediting asked)) (with_more (existing held destination) (read_amount (read asked (inp asked))))

  -- 5 or 15, else 19
  unfoldable pub credit_by : ℕ → Next
  credit_by op =
      cond (eqb op 5) (with_amount (credited_amount quantity quantity) credited_stack)
      (cond (eqb op 15) (with_amount (credited_amount balance amount) credited_balance) (Err NoCredit))

-- CREDIT: 1 of the source, 1 of the destination, 2, 19, then the list
unfoldable pub credit_of : ℕ → List ℕ → List ℕ → List ℕ → Next
credit_of op source destination i =
    unless_refused (state_sound 1 (state_of source) then state_sound 2 (state_of destination) then input_sound (sound_as Shape.Input i))
    (credit_by amount_in (sight_of source) (sight_of destination) (field i) op)
