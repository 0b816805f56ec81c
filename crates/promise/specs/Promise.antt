-- Document 02, request 4: "The gateway acts on check alone and applies later. For operations 3 to 6, 14 to 16, 18 to 20 and 22: if check
-- accepts, the state is of the profile's kind with a non-empty subject (and, except for 20 and 22, a non-empty unit) and the output holds
-- the sheet, then apply accepts, and the new quantity plus the requested one equals the old exactly, at every scale a state can have."
use Rattle.std.specs.Prelude.{true, List, [], ◌∷◌, ℕ, ◌+◌, ◌*◌, ◌^◌, ◌<◌, ◌≤◌, length, IfOk, Ok, ◌≡◌}
use Rattle.std.specs.List.{All}
use Rattle.amount.specs.Numbers.{val}
use Rattle.amount.specs.declared.Amount.{Amount}
use Rattle.sheet.specs.Sheet.{state_of}
use Rattle.sheet.specs.Fields.{field, figure, subject, unit, quantity, balance, remaining, amount}
use Rattle.sheet.specs.declared.State.{State}
use Rattle.sheet.specs.declared.State.TheVariants as Kind
use Rattle.registry.specs.Readers.{amount_in, bytes_of}
use Rattle.registry.specs.Tests.{among}
use Rattle.registry.specs.declared.error.Answer.{Answer}
use Rattle.profiles.specs.Check.{check_of}
use Rattle.writer.specs.Encode.{over}
use Rattle.resource_state.specs.Next.{sheet_of, unless_refused, Next}
use Rattle.resource_state.specs.Apply.{next_of}
use Rattle.transition.specs.Written.{written_of}

-- THE OPERATIONS, which take from what a state holds: their profile and its kind, the texts that must not be empty, the field that is
-- taken from, and the input's amount
pub record PromiseRow : Type 0 where
  pub profile : ℕ
  pub operations : List ℕ
  pub kind : State
  pub texts : List ℕ
  pub held : ℕ
  pub asked : ℕ

abbrev pub promise_row : ℕ → List ℕ → State → List ℕ → ℕ → ℕ → PromiseRow
promise_row profile operations kind texts held asked =
    record { profile = profile; operations = operations; kind = kind; texts = texts; held = held; asked = asked }

-- 3 debit, 4 consume, 5 transfer and 6 reserve; 14 debit, 15 transfer, 16 reserve, 18 spend and 19 burn; 20 convert; 22 consume
abbrev pub promise_rows : List PromiseRow
promise_rows =
    promise_row 1 (3 ∷ 4 ∷ 5 ∷ 6 ∷ []) Kind.Stack (subject ∷ unit ∷ []) quantity quantity
    ∷ promise_row 2 (14 ∷ 15 ∷ 16 ∷ 18 ∷ 19 ∷ []) Kind.Balance (subject ∷ unit ∷ []) balance amount
    ∷ promise_row 2 (20 ∷ []) Kind.Balance (subject ∷ []) balance amount
    ∷ promise_row 3 (22 ∷ []) Kind.Meter (subject ∷ []) remaining amount
    ∷ []

-- WHAT IS KNOWN of a call whose check has this answer
abbrev pub NonEmpty : List ℕ → ℕ → Type 0
NonEmpty s name = 0 < length (bytes_of (field s name))

-- the output holds the sheet, if apply makes one
abbrev pub Holds : Next → List ℕ → List ℕ → List ℕ → Type 0
Holds n s i old = IfOk n (λ state. length (sheet_of (field s) (field i) state) ≤ length old)

pub record Cleared (t : PromiseRow) (profile op : ℕ) (s i old : List ℕ) (check : Answer) : Type 0 where
  pub profile_is : profile ≡ t.profile
  pub operation_is : among op t.operations ≡ true
  pub accepted : check.number ≡ 0
  pub kind : state_of s ≡ t.kind
  pub texts : All (NonEmpty s) t.texts
  pub holds : Holds (next_of profile op s i) s i old

-- WHAT APPLY THEN DOES, by its answer and the output that it leaves: it accepts, the output begins with the sheet and goes on as it was,
-- and the quantity in that sheet and the requested one are the old

-- a + b is c exactly, each the value of a mantissa over ten to its scale: cross-multiplied
abbrev pub Adds : Amount → Amount → Amount → Type 0
Adds a b c =
    val a.mantissa * 10 ^ (b.scale + c.scale) + val b.mantissa * 10 ^ (a.scale + c.scale) ≡ val c.mantissa * 10 ^ (a.scale + b.scale)

pub record Fulfilled (t : PromiseRow) (s i old : List ℕ) (apply : Answer) (out : List ℕ) : Type 0 where
  pub sheet : List ℕ
  pub accepted : apply ≡ written_of (length sheet)
  pub written : out ≡ over sheet old
  pub kind : state_of sheet ≡ t.kind
  pub held : Amount
  pub asked : Amount
  pub left : Amount
  pub held_is : field s t.held ≡ figure held
  pub asked_is : amount_in t.asked (field i t.asked) ≡ Ok asked
  pub left_is : field sheet t.held ≡ figure left
  pub exact : Adds left asked held

-- THE PROMISE, of check's answer, apply's answer and the output that apply leaves
abbrev pub Promise : ℕ → ℕ → List ℕ → List ℕ → List ℕ → Answer → Answer → List ℕ → Type 0
Promise profile op s i old check apply out = All (λ t. Cleared t profile op s i old check → Fulfilled t s i old apply out) promise_rows

-- check, and where it accepts, apply
abbrev pub next_checked : ℕ → ℕ → List ℕ → List ℕ → Next
next_checked profile op s i = unless_refused (check_of profile op s i) (next_of profile op s i)
