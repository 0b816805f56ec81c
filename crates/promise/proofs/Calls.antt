-- Document 02, request 4, on worked calls, by computation: what each operation that the table names leaves, what check and apply say where a
-- premise does not hold, that no row speaks of such a debit, and that the premises can hold.
use mathlib.Core.Path.{◌≡◌, refl}
use mathlib.Core.Bool.{true, cond, false≢true}
use mathlib.Core.List.{List, [], ◌∷◌, map}
use Prim.Native.Nat.{ℕ, ◌^◌}
use native.Mathlib.Omega.{arith}
use lib.Dec.{eqb}
use lib.ListN.{take, replicate, get_or}
use Rattle.std.specs.List.{All, AllByRecursion}
use Rattle.std.proofs.lemmas.List.Elements.{All-from_recursion}
use Rattle.amount.specs.Numbers.{val, limit, halves, order_of}
use Rattle.amount.specs.Decimal.{all_digits, digits_after, decimal}
use Rattle.amount.specs.Amounts.{amount_if, read_of, compare_of, mantissa_at, sum_of, difference_of}
use Rattle.amount.specs.declared.Amount.{Amount}
use Rattle.sheet.specs.Walk.{every, sum, prior}
use Rattle.sheet.specs.Sheet.{entry_at, is_field, is_form, sound_as, state_of, entries_from, lookup}
use Rattle.sheet.specs.Amounts.{amount_at}
use Rattle.sheet.specs.Fields.{Field, figure, field, subject, unit, balance, amount}
use Rattle.sheet.specs.declared.State.{State}
use Rattle.sheet.specs.declared.State.TheVariants as Kind
use Rattle.registry.specs.Refusals.{answer_of}
use Rattle.registry.specs.declared.error.Answer.{Answer}
use Rattle.registry.specs.Readers.{text_in, text_of, bytes_of, marked, parsed, amount_by, amount_of}
use Rattle.registry.specs.Tests.{among, state_absent, state_there, above_zero, held_by}
use Rattle.registry.specs.Call.{operation_of, called}
use Rattle.profiles.specs.Stack.{stack_rules}
use Rattle.profiles.specs.Balance.{balance_rules}
use Rattle.profiles.specs.Meter.{meter_rules}
use Rattle.profiles.specs.Check.{check_of}
use Rattle.writer.specs.Encode.{encode, stack_sheet, balance_sheet, meter_sheet, put_into, put_answer}
use Rattle.resource_state.specs.Next.{sheet_of}
use Rattle.resource_state.specs.Apply.{stack_next, balance_next, meter_next, next_of}
use Rattle.transition.specs.Written.{answer_to, buffer_after}
use Rattle.promise.specs.Promise.{PromiseRow, promise_row, promise_rows, Adds, NonEmpty, Holds, Cleared}

abbrev at : ℕ → ℕ → Amount
at m scale = record { mantissa = halves m; scale = scale }

abbrev tenths : ℕ → Amount
tenths n = at n 1

abbrev one : Amount
one = at 1 0

-- a state of node `N` that holds 1.2, of each kind, in a unit; an input that asks for 1, with all texts that an operation may ask for
abbrev state_in : List ℕ → State → List ℕ
state_in u Kind.Absent = []
state_in u Kind.Stack = stack_sheet (78 ∷ []) u (tenths 12)
state_in u Kind.Balance = balance_sheet (78 ∷ []) u (tenths 12)
state_in u Kind.Meter = meter_sheet (78 ∷ []) (tenths 12) (tenths 30)
state_in u Kind.Torn = []

abbrev state : State → List ℕ
state = state_in (114 ∷ [])

abbrev input : List ℕ
input =
    5 ∷ 3 ∷ 1 ∷ 31 ∷ 0 ∷ 1 ∷ 0 ∷ 7 ∷ 1 ∷ 32 ∷ 0 ∷ 1 ∷ 0 ∷ 8 ∷ 1 ∷ 33 ∷ 0 ∷ 1 ∷ 0 ∷ 9 ∷ 1 ∷ 34 ∷ 0 ∷ 1 ∷ 0 ∷ 10 ∷ 1 ∷ 35 ∷ 0 ∷ 1 ∷ 0
    ∷ 49 ∷ 49 ∷ 77 ∷ 115 ∷ 79 ∷ []

abbrev buffer : List ℕ
buffer = replicate 548 0

-- the operation, check's number, apply's, and the field that is taken from in the sheet written
abbrev told : PromiseRow → ℕ → ℕ × ℕ × ℕ × Field
told t op =
    let s : List ℕ = state t.kind in
    let a : Answer = answer_to (next_of t.profile op s input) s input buffer in
    (op, (answer_of (check_of t.profile op s input)).number, a.number, field (take a.length (buffer_after (next_of t.profile op s input) s input buffer)) t.held)

-- 1.2 less 1 is 0.2
abbrev lowered : ℕ → ℕ × ℕ × ℕ × Field
lowered op = (op, 0, 0, figure (tenths 2))

-- document 02's operations, no more and no fewer. A release, 17, is none: check and apply accept it, and it leaves 2.2
pub named : (map (λ t. map (told t) t.operations) promise_rows
    ≡ map lowered (3 ∷ 4 ∷ 5 ∷ 6 ∷ []) ∷ map lowered (14 ∷ 15 ∷ 16 ∷ 18 ∷ 19 ∷ []) ∷ map lowered (20 ∷ []) ∷ map lowered (22 ∷ []) ∷ [])
    × (told (promise_row 2 [] Kind.Balance [] balance amount) 17 ≡ (17, 0, 0, figure (tenths 22)))
unfolding val limit halves order_of all_digits digits_after decimal amount_if read_of compare_of mantissa_at sum_of difference_of every sum prior entry_at is_field is_form sound_as entries_from lookup amount_at field text_in text_of bytes_of marked parsed amount_by amount_of state_absent state_there above_zero held_by operation_of called stack_rules balance_rules meter_rules check_of encode stack_sheet balance_sheet meter_sheet put_into put_answer sheet_of stack_next balance_next meter_next next_of answer_to buffer_after
named = (refl, refl)

-- 0.2 and 1 are 1.2; neither are 0.1, 0.3, 2 or 2.2 and 1; at other scales too
pub adds_up : Adds (tenths 2) one (tenths 12) × (Adds (tenths 1) one (tenths 12) → ⊥) × (Adds (tenths 3) one (tenths 12) → ⊥) × (Adds (at 2 0) one (tenths 12) → ⊥)
    × (Adds (tenths 22) one (tenths 12) → ⊥) × Adds (at 20 2) one (tenths 12) × Adds (at 0 255) one (at (10 ^ 38) 38)
unfolding val halves
adds_up = (refl, (λ e. absurd (omega (arith, e))), (λ e. absurd (omega (arith, e))), (λ e. absurd (omega (arith, e))), (λ e. absurd (omega (arith, e))), refl, refl)

-- number and detail of check and of apply
abbrev both : ℕ → ℕ → List ℕ → List ℕ → List ℕ → ℕ × ℕ × ℕ × ℕ
both p op s i old =
    let c : Answer = answer_of (check_of p op s i) in
    let a : Answer = answer_to (next_of p op s i) s i old in
    (c.number, c.detail, a.number, a.detail)

abbrev no_subject : List ℕ
no_subject = balance_sheet [] (114 ∷ []) (tenths 12)

abbrev no_unit : List ℕ
no_unit = state_in [] Kind.Balance

-- WHERE A PREMISE DOES NOT HOLD, and beside it where it just holds. Without a subject or a unit check accepts and apply says 13; convert and
-- consume need no unit. 38 bytes hold the sheet, and for 37 apply says 20. 2 of 1.2 is 15 in check and 18 in apply. Of a stack a balance's
-- debit is 12 in check itself
pub at_the_edges :
    (both 1 3 (stack_sheet [] (114 ∷ []) (tenths 12)) input buffer ≡ (0, 0, 13, subject))
    × (both 1 3 (state_in [] Kind.Stack) input buffer ≡ (0, 0, 13, unit))
    × (both 2 14 no_subject input buffer ≡ (0, 0, 13, subject))
    × (both 2 14 no_unit input buffer ≡ (0, 0, 13, unit))
    × (both 2 20 no_subject input buffer ≡ (0, 0, 13, subject))
    × (both 2 20 no_unit input buffer ≡ (0, 0, 0, 0))
    × (both 3 22 (meter_sheet [] (tenths 12) (tenths 30)) input buffer ≡ (0, 0, 13, subject))
    × (both 2 14 (state Kind.Balance) input (replicate 38 0) ≡ (0, 0, 0, 0))
    × (both 2 14 (state Kind.Balance) input (replicate 37 0) ≡ (0, 0, 20, 0))
    × (both 2 14 (state Kind.Balance) (1 ∷ 7 ∷ 1 ∷ 7 ∷ 0 ∷ 1 ∷ 0 ∷ 50 ∷ []) buffer ≡ (15, 0, 18, 0))
    × (both 2 14 (state Kind.Stack) input buffer ≡ (12, balance, 12, balance))
unfolding val limit halves order_of all_digits digits_after decimal amount_if read_of compare_of mantissa_at difference_of every sum prior entry_at is_field is_form sound_as entries_from lookup amount_at field text_in text_of bytes_of marked parsed amount_by amount_of state_absent state_there above_zero held_by operation_of called stack_rules balance_rules meter_rules check_of encode stack_sheet balance_sheet meter_sheet put_into put_answer sheet_of stack_next balance_next meter_next next_of answer_to buffer_after
at_the_edges = (refl, refl, refl, refl, refl, refl, refl, refl, refl, refl, refl)

-- so of a debit without a subject, without a unit, or into 37 bytes, no row speaks
module _ (s old : List ℕ) where
  abbrev Spoken : PromiseRow → Type 0
  Spoken t = Cleared t 2 14 s input old (answer_of (check_of 2 14 s input))

  abbrev Unspoken : Type 0
  Unspoken = All (λ t. Spoken t → ⊥) promise_rows

  unspoken : (NonEmpty s subject → NonEmpty s unit → Holds (next_of 2 14 s input) s input old → ⊥) → Unspoken
  unspoken f =
      All-from_recursion (λ t. Spoken t → ⊥) promise_rows (
        λ c. absurd (omega (arith, c.profile_is)),
        (λ c. f (c.texts 0 0 (omega arith)) (c.texts 1 0 (omega arith)) c.holds, (λ c. false≢true c.operation_is, (λ c. absurd (omega (arith, c.profile_is)), tt))),
      )

pub asked_for : Unspoken no_subject buffer × Unspoken no_unit buffer × Unspoken (state Kind.Balance) (replicate 37 0)
unfolding val limit halves order_of all_digits digits_after decimal amount_if read_of compare_of mantissa_at difference_of every sum prior entry_at is_field is_form sound_as entries_from lookup amount_at field text_in text_of bytes_of marked parsed amount_by amount_of state_absent state_there above_zero held_by operation_of called stack_rules balance_rules meter_rules check_of encode stack_sheet balance_sheet meter_sheet put_into put_answer sheet_of stack_next balance_next meter_next next_of answer_to buffer_after
asked_for = (
  unspoken no_subject buffer (λ x y z. absurd (omega (arith, x))),
  unspoken no_unit buffer (λ x y z. absurd (omega (arith, y))),
  unspoken (state Kind.Balance) (replicate 37 0) (λ x y z. absurd (omega (arith, z))),
)

-- THE PREMISES CAN HOLD, of the first operation of each row, and ask for no more than document 02: a convert has no unit, and an output not
-- one byte more than the sheet
module _ (t : PromiseRow) where
  abbrev first : ℕ
  first = get_or t.operations 0 0

  abbrev least : List ℕ
  least = state_in (cond (eqb first 20) [] (114 ∷ [])) t.kind

  abbrev room : List ℕ
  room = replicate (cond (eqb t.profile 3) 54 38) 0

  abbrev Possible : Type 0
  Possible = Cleared t t.profile first least input room (answer_of (check_of t.profile first least input))

  cleared : among first t.operations ≡ true → (answer_of (check_of t.profile first least input)).number ≡ 0 → state_of least ≡ t.kind
      → AllByRecursion (NonEmpty least) t.texts → Holds (next_of t.profile first least input) least input room → Possible
  cleared a b c d e = record { profile_is = refl; operation_is = a; accepted = b; kind = c; texts = All-from_recursion (NonEmpty least) t.texts d; holds = e }

pub possible : All Possible promise_rows
unfolding val limit halves order_of all_digits digits_after decimal amount_if read_of compare_of mantissa_at difference_of every sum prior entry_at is_field is_form sound_as entries_from lookup amount_at field text_in text_of bytes_of marked parsed amount_by amount_of state_absent state_there above_zero held_by operation_of called stack_rules balance_rules meter_rules check_of encode stack_sheet balance_sheet meter_sheet put_into put_answer sheet_of stack_next balance_next meter_next next_of answer_to buffer_after
possible =
    All-from_recursion Possible promise_rows (
      cleared _ refl refl refl (omega arith, (omega arith, tt)) (omega arith),
      (
        cleared _ refl refl refl (omega arith, (omega arith, tt)) (omega arith),
        (cleared _ refl refl refl (omega arith, tt) (omega arith), (cleared _ refl refl refl (omega arith, tt) (omega arith), tt)),
      ),
    )
