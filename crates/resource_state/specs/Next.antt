-- Document 01, section "Operations", Apply: the next state as data, and the tests that come before it.
use Rattle.std.specs.Prelude.{cond, List, [], ◌∷◌, ℕ, Result, Ok, Err}
use Rattle.amount.specs.Amounts.{min_of}
use Rattle.amount.specs.declared.Amount.{Amount}
use Rattle.writer.specs.Encode.{stack_sheet, balance_sheet, meter_sheet}
use Rattle.sheet.specs.Fields.{Field, Sight}
use Rattle.registry.specs.Refusals.{zero_amount, Outcome, Reading}
use Rattle.registry.specs.Readers.{amount_of, bytes_of, read_amount}
use Rattle.registry.specs.Tests.{Test, among, first, plus, less}
use Rattle.registry.specs.declared.error.ProfileError.{ProfileError}
use Rattle.registry.specs.declared.error.ProfileError.TheVariants.{UnknownOperation}
use Rattle.resource_state.specs.declared.Part.{Part}
use Rattle.resource_state.specs.declared.Part.TheVariants.{State, Input}
use Rattle.resource_state.specs.declared.ResourceState.{ResourceState}
use Rattle.resource_state.specs.declared.ResourceState.TheVariants.{ConsumableStack, FungibleBalance, MeteredResource}

-- THE AMOUNTS of a next state, by the names of fields: the input's, the state's as it was, arithmetic on the two
pub data Gives : Type 0 where
  zero : Gives
  given : (asked : ℕ) → Gives
  kept : (held : ℕ) → Gives
  the_sum : (held asked : ℕ) → Gives
  the_difference : (held asked : ℕ) → Gives
  lesser : (asked held : ℕ) → Gives

-- THE NEXT STATE, of the profile's kind
pub data Makes : Type 0 where
  a_stack : (subject unit : Part) (quantity : Gives) → Makes
  a_balance : (subject unit : Part) (balance : Gives) → Makes
  a_meter : (subject : Part) (remaining maximum : Gives) → Makes

-- some operations, their tests, and what they make
pub record ApplyRow : Type 0 where
  pub operations : List ℕ
  pub tests : List Test
  pub makes : Makes

abbrev pub apply_row : List ℕ → List Test → Makes → ApplyRow
apply_row operations tests makes = record { operations = operations; tests = tests; makes = makes }

-- a next state, or why there is none
abbrev pub Next : Type 0
Next = Result ResourceState ProfileError

-- a next state, where the tests are passed
abbrev pub unless_refused : Outcome → Next → Next
unless_refused (Ok _) n = n
unless_refused (Err e) n = Err e

abbrev pub stack_of : Part → Part → Amount → ResourceState
stack_of subject unit quantity = ConsumableStack (record { subject = subject; quantity = quantity; unit = unit })

abbrev pub balance_of : Part → Part → Amount → ResourceState
balance_of subject unit amount = FungibleBalance (record { subject = subject; balance = amount; unit = unit })

abbrev pub meter_of : Part → Amount → Amount → ResourceState
meter_of subject remaining maximum = MeteredResource (record { subject = subject; remaining = remaining; maximum = maximum })

-- THE INTERPRETER, over how an input amount is read, a state and an input
module _ (read : ℕ → Field → Reading) (st : Sight) (inp : ℕ → Field) where
  abbrev pub asked : ℕ → Amount
  asked n = read_amount (read n (inp n))

  abbrev pub held : ℕ → Amount
  held n = read_amount (amount_of n (st.at n))

  abbrev pub amount_for : Gives → Amount
  amount_for zero = zero_amount
  amount_for (given a) = asked a
  amount_for (kept h) = held h
  amount_for (the_sum h a) = read_amount (plus (held h) (asked a))
  amount_for (the_difference h a) = read_amount (less (held h) (asked a))
  amount_for (lesser a h) = min_of (asked a) (held h)

  abbrev pub made : Makes → ResourceState
  made (a_stack subject unit quantity) = stack_of subject unit (amount_for quantity)
  made (a_balance subject unit amount) = balance_of subject unit (amount_for amount)
  made (a_meter subject remaining maximum) = meter_of subject (amount_for remaining) (amount_for maximum)

  -- the tests of the operation's row, then its next state; 4 where there is no row
  abbrev pub applied : ℕ → List ApplyRow → Next
  applied op [] = Err UnknownOperation
  applied op (r ∷ rs) = cond (among op r.operations) (unless_refused (first read st inp r.tests) (Ok (made r.makes))) (applied op rs)

-- the text that a part stands for
abbrev pub text_from : (ℕ → Field) → (ℕ → Field) → Part → List ℕ
text_from st inp (State n) = bytes_of (st n)
text_from st inp (Input n) = bytes_of (inp n)

-- the sheet of a next state
unfoldable pub sheet_of : (ℕ → Field) → (ℕ → Field) → ResourceState → List ℕ
sheet_of st inp (ConsumableStack s) = stack_sheet (text_from st inp s.subject) (text_from st inp s.unit) s.quantity
sheet_of st inp (FungibleBalance s) = balance_sheet (text_from st inp s.subject) (text_from st inp s.unit) s.balance
sheet_of st inp (MeteredResource s) = meter_sheet (text_from st inp s.subject) s.remaining s.maximum

-- a next state with an amount that was read
abbrev pub with_amount : Reading → (Amount → ResourceState) → Next
with_amount (Ok a) make = Ok (make a)
with_amount (Err e) make = Err e
