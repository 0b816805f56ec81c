use mathlib.Core.Path.{◌≡◌, refl, sym}
use Rattle.amount.specs.declared.Amount.{Amount}
use Rattle.amount.specs.declared.AmountError.{AmountError}
use Rattle.registry.specs.Helpers.{mantissa_in}
use Rattle.registry.specs.Readers.{amount_by, given_or}
use Rattle.registry.specs.declared.error.ProfileError.{ProfileError}
use Rattle.registry.proofs.Readers.{amount_in_is}
use Rattle.sheet.specs.Fields.{field}
use Rattle.std.specs.Prelude.{None, Result, Ok, Err}
use Rattle.registry.proofs.input_mantissa.Goals.{In_default-parse_amount_str}
use Rattle.registry.proofs.input_mantissa.Goals as goal

refused : (c : In_default-parse_amount_str) (o : Result Amount AmountError) (e : ProfileError) → o ≡ c.parse_amount_str.result → None ≡ mantissa_in (given_or e o)
refused c (Ok a) e q = absurd (c.in_default-parse_amount_str.not-Ok a (sym q))
refused c (Err x) e q = refl

pub returns-in_default : goal.returns-in_default
unfolding amount_by field
returns-in_default c = rw (← c.find.ensures, c.in_default.is)

pub returns-in_default-parse_amount_str : goal.returns-in_default-parse_amount_str
unfolding field
returns-in_default-parse_amount_str c =
    rw (← c.find.ensures, c.in-Some.is, amount_in_is, ← c.parse_amount_str.ensures) (refused (goal.at.returns-in_default-parse_amount_str c).In_default-parse_amount_str _ _ refl)

pub returns : goal.returns
unfolding field
returns c = rw (← c.find.ensures, c.in-Some.is, amount_in_is, ← c.parse_amount_str.ensures, c.in-Ok.is)
