use mathlib.Core.Path.{sym, ap, ◌∙◌}
use Rattle.std.specs.Prelude.{Err}
use Rattle.registry.proofs.Readers.{mantissa_given, mantissa_absent}
use Rattle.registry.proofs.input_amount.Goals as goal

pub returns-in_default : goal.returns-in_default
returns-in_default c = ap Err c.amount_refusal.ensures ∙ sym (mantissa_absent _ _ (sym c.input_mantissa.ensures ∙ c.in_default.is))

pub returns : goal.returns
returns c = sym (mantissa_given _ _ _ (sym c.input_mantissa.ensures ∙ c.in-Some.is))
