-- Document 01, section "Operations": the tests that rules are lists of, and the answer of the first that is not passed.
use Rattle.std.specs.Prelude.{Bool, false, cond, ◌||◌, List, [], ◌∷◌, ℕ, eqb, Ok, Err}
use Rattle.amount.specs.Numbers.{val}
use Rattle.amount.specs.Amounts.{compare_of, sum_of, difference_of}
use Rattle.amount.specs.declared.Amount.{Amount}
use Rattle.std.specs.declared.cmp.Ordering.{Ordering}
use Rattle.std.specs.declared.cmp.Ordering.TheVariants.{Less, Equal, Greater}
use Rattle.sheet.specs.Fields.{Field, Sight, sight_of, field, subject, unit}
use Rattle.registry.specs.Readers.{text_in, text_of, amount_in, amount_of, given_or, readable, on_amount}
use Rattle.registry.specs.declared.error.ProfileError.{ProfileError}
use Rattle.registry.specs.declared.error.ProfileError.TheVariants.{UnknownOperation, Born, Unborn, NonPositiveAmount, InsufficientQuantity, OverMaximum, Overflow, Underflow}
use Rattle.registry.specs.Refusals.{Outcome, Reading}

-- one test after another: the first refusal
abbrev pub ◌then◌ : Outcome → Outcome → Outcome
(Ok _) then b = b
(Err e) then b = Err e

infixr 30 ◌then◌
-- 5 and 6
unfoldable pub state_absent : Bool → Outcome
state_absent there = cond there (Err Born) (Ok tt)

unfoldable pub state_there : Bool → Outcome
state_there there = cond there (Ok tt) (Err Unborn)

-- 14
unfoldable pub above_zero : Amount → Outcome
above_zero a = cond (eqb (val a.mantissa) 0) (Err NonPositiveAmount) (Ok tt)

abbrev pub unless_less : Ordering → ProfileError → Outcome
unless_less Less e = Err e
unless_less Equal e = Ok tt
unless_less Greater e = Ok tt

-- 15: the request is above what is held
unfoldable pub held_by : Amount → Amount → Outcome
held_by held a = unless_less (compare_of held a) (InsufficientQuantity held a)

-- 16: remaining above maximum
unfoldable pub up_to : Amount → Amount → Outcome
up_to a maximum = unless_less (compare_of maximum a) OverMaximum

-- 17 and 18
abbrev pub plus : Amount → Amount → Reading
plus held a = given_or Overflow (sum_of held a)

abbrev pub less : Amount → Amount → Reading
less held a = given_or Underflow (difference_of held a)

-- THE TESTS. "in" is an input, "st" a state field; the last three are arithmetic and a bound
pub data Test : Type 0 where
  unborn : Test
  born : Test
  in_text : (name : ℕ) → Test
  in_amount : (name : ℕ) → Test
  st_text : (name : ℕ) → Test
  st_amount : (name : ℕ) → Test
  positive : (name : ℕ) → Test
  available : (held asked : ℕ) → Test
  up_to_maximum : (name maximum : ℕ) → Test
  can_add : (held asked : ℕ) → Test
  can_subtract : (held asked : ℕ) → Test

-- some operations, and their tests
pub record Row : Type 0 where
  pub operations : List ℕ
  pub tests : List Test

abbrev pub row : List ℕ → List Test → Row
row operations tests = record { operations = operations; tests = tests }

abbrev pub among : ℕ → List ℕ → Bool
among n [] = false
among n (m ∷ ms) = eqb n m || among n ms

-- THE INTERPRETER, over how an input amount is read, a state and an input
module _ (read : ℕ → Field → Reading) (st : Sight) (inp : ℕ → Field) where
  -- a test of what is held and what is asked
  abbrev pub on_both : ℕ → ℕ → (Amount → Amount → Outcome) → Outcome
  on_both held asked f = on_amount (amount_of held (st.at held)) (λ h. on_amount (read asked (inp asked)) (f h))

  abbrev pub meets : Test → Outcome
  meets unborn = state_absent st.there
  meets born = state_there st.there
  meets (in_text n) = text_in n (inp n)
  meets (in_amount n) = readable (read n (inp n))
  meets (st_text n) = text_of n (st.at n)
  meets (st_amount n) = readable (amount_of n (st.at n))
  meets (positive n) = on_amount (read n (inp n)) above_zero
  meets (available held asked) = on_both held asked held_by
  meets (up_to_maximum n m) = on_amount (read n (inp n)) (λ a. on_amount (read m (inp m)) (up_to a))
  meets (can_add held asked) = on_both held asked (λ h a. readable (plus h a))
  meets (can_subtract held asked) = on_both held asked (λ h a. readable (less h a))

  -- the first test that is not passed is the answer
  abbrev pub first : List Test → Outcome
  first [] = Ok tt
  first (t ∷ ts) = meets t then first ts

  -- the tests of the operation's row; 4 where there is none
  abbrev pub ruled : ℕ → List Row → Outcome
  ruled op [] = Err UnknownOperation
  ruled op (r ∷ rs) = cond (among op r.operations) (first r.tests) (ruled op rs)

-- the answer of a list over two sheets, amounts read as document 01 reads them
abbrev pub first_of : List ℕ → List ℕ → List Test → Outcome
first_of s i = first amount_in (sight_of s) (field i)

-- what all that take from an amount have in common: st held, in asked, 14, 15
abbrev pub draws_on : ℕ → ℕ → List Test
draws_on held asked = st_amount held ∷ in_amount asked ∷ positive asked ∷ available held asked ∷ []

-- unborn, in subject, in unit, then in quantity or balance
abbrev pub creates : ℕ → List Test
creates name = unborn ∷ in_text subject ∷ in_text unit ∷ in_amount name ∷ []
