-- Laws of numbers: 0 is accepted, and no refusal has it.
use mathlib.Core.Path.{◌≡◌, refl}
use Prim.Native.Nat.{◌<◌}
use native.Mathlib.Omega.{arith}
use Rattle.registry.specs.Refusals.{refusal_of, answer_of, Outcome}
use Rattle.registry.specs.declared.error.ProfileError.{ProfileError}
use Rattle.registry.specs.declared.error.ProfileError.TheVariants.{TornState, TornInput, UnknownProfile, UnknownOperation, Born, Unborn, Missing, NotText, Empty, NotWhole, FloatForbidden, NoField, Blank, NonPositiveAmount, InsufficientQuantity, OverMaximum, Overflow, Underflow, NoCredit, Narrow}
use Rattle.std.specs.Prelude.{Ok, Err}

-- no refusal has the number 0
pub refusal_positive : (e : ProfileError) → 0 < (refusal_of e).number
refusal_positive (TornState w) = omega arith
refusal_positive TornInput = omega arith
refusal_positive UnknownProfile = omega arith
refusal_positive UnknownOperation = omega arith
refusal_positive Born = omega arith
refusal_positive Unborn = omega arith
refusal_positive (Missing n) = omega arith
refusal_positive (NotText n) = omega arith
refusal_positive (Empty n) = omega arith
refusal_positive (NotWhole n) = omega arith
refusal_positive (FloatForbidden n) = omega arith
refusal_positive (NoField n) = omega arith
refusal_positive (Blank n) = omega arith
refusal_positive NonPositiveAmount = omega arith
refusal_positive (InsufficientQuantity a r) = omega arith
refusal_positive OverMaximum = omega arith
refusal_positive Overflow = omega arith
refusal_positive Underflow = omega arith
refusal_positive NoCredit = omega arith
refusal_positive Narrow = omega arith

-- a number is 0 exactly where the outcome is accepted
pub zero_is_accepted : (o : Outcome) → (answer_of o).number ≡ 0 → o ≡ Ok tt
zero_is_accepted (Ok _) h = refl
zero_is_accepted (Err e) h = absurd (omega (arith, h, refusal_positive e))

pub accepted_is_zero : (o : Outcome) → o ≡ Ok tt → (answer_of o).number ≡ 0
accepted_is_zero o h = rw h
