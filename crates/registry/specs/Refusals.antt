-- Document 01, section "Operations", the refusal table: the number, the detail and the two amounts of each refusal.
use Rattle.std.specs.Prelude.{ℕ, Result, Ok, Err}
use Rattle.amount.specs.declared.Amount.{Amount}
use Rattle.registry.specs.declared.error.ProfileError.{ProfileError}
use Rattle.registry.specs.declared.error.ProfileError.TheVariants.{TornState, TornInput, UnknownProfile, UnknownOperation, Born, Unborn, Missing, NotText, Empty, NotWhole, FloatForbidden, NoField, Blank, NonPositiveAmount, InsufficientQuantity, OverMaximum, Overflow, Underflow, NoCredit, Narrow}
use Rattle.registry.specs.declared.error.Answer.{Answer}

-- what a check says
abbrev pub Outcome : Type 0
Outcome = Result (Unit {0}) ProfileError

-- an amount that was read, or why there is none
abbrev pub Reading : Type 0
Reading = Result Amount ProfileError

abbrev pub zero_amount : Amount
zero_amount = record { mantissa = record { hi = 0; lo = 0 }; scale = 0 }

-- a number and a detail; amounts are zero outside 15, and a refusal writes nothing
abbrev pub numbered : ℕ → ℕ → Answer
numbered number detail = record { number = number; detail = detail; available = zero_amount; requested = zero_amount; length = 0 }

-- detail: the sheet (1 source, 2 destination) or the name of the field; 0 unless named
abbrev pub refusal_of : ProfileError → Answer
refusal_of (TornState which) = numbered 1 which
refusal_of TornInput = numbered 2 0
refusal_of UnknownProfile = numbered 3 0
refusal_of UnknownOperation = numbered 4 0
refusal_of Born = numbered 5 0
refusal_of Unborn = numbered 6 0
refusal_of (Missing name) = numbered 7 name
refusal_of (NotText name) = numbered 8 name
refusal_of (Empty name) = numbered 9 name
refusal_of (NotWhole name) = numbered 10 name
refusal_of (FloatForbidden name) = numbered 11 name
refusal_of (NoField name) = numbered 12 name
refusal_of (Blank name) = numbered 13 name
refusal_of NonPositiveAmount = numbered 14 0
refusal_of (InsufficientQuantity available requested) =
    record { number = 15; detail = 0; available = available; requested = requested; length = 0 }
refusal_of OverMaximum = numbered 16 0
refusal_of Overflow = numbered 17 0
refusal_of Underflow = numbered 18 0
refusal_of NoCredit = numbered 19 0
refusal_of Narrow = numbered 20 0

-- 0 is accepted; a check writes nothing
abbrev pub answer_of : Outcome → Answer
answer_of (Ok _) = numbered 0 0
answer_of (Err e) = refusal_of e
