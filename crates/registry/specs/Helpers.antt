-- For the functions of `registry` that C does not get: no exported contract speaks of these.
use Rattle.std.specs.Prelude.{cond, ℕ, Option, Some, None, Result, Ok, Err}
use Rattle.amount.specs.Amounts.{read_of}
use Rattle.sheet.specs.Fields.{Field, absent, text, figure, other}
use Rattle.registry.specs.declared.error.ProfileError.{ProfileError}
use Rattle.registry.specs.declared.error.ProfileError.TheVariants.{Missing, NotWhole, FloatForbidden}
use Rattle.registry.specs.Readers.{marked, readable, on_amount}
use Rattle.registry.specs.Refusals.{Outcome, Reading}
use Rattle.registry.specs.Tests.{◌then◌, above_zero, held_by}
use Rattle.amount.specs.declared.AmountError.{AmountError}
use Rattle.amount.specs.declared.Amount.{Amount}
use Rattle.amount.specs.declared.uint128.Uint128.{Uint128}

-- an input amount in the code's order: the number that a field's text stands for, and only where there is none, why
unfoldable pub read_in : Field → Result Amount AmountError
read_in absent = Err AmountError.NotWhole
read_in (text t) = read_of t
read_in (figure a) = Err AmountError.NotWhole
read_in other = Err AmountError.NotWhole

unfoldable pub fault_in : ℕ → Field → ProfileError
fault_in n absent = Missing n
fault_in n (text t) = cond (marked t) (FloatForbidden n) (NotWhole n)
fault_in n (figure a) = NotWhole n
fault_in n other = NotWhole n

-- the mantissa of an amount that was read
abbrev pub mantissa_in : Reading → Option Uint128
mantissa_in (Ok a) = Some a.mantissa
mantissa_in (Err e) = None

-- what `draws_on` tests, of two readings: of what is held and of what is asked
abbrev pub taking : Reading → Reading → Outcome
taking held asked = readable held then readable asked then on_amount asked above_zero then on_amount held (λ h. on_amount asked (held_by h)) then Ok tt
