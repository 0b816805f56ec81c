use Rattle.amount.proofs.Summing.{subtract_outside, subtract_less, subtract_given}
use Rattle.std.proofs.Common.{◌≡◌, Err, sym, ◌∙◌, rules}
use Rattle.amount.specs.declared.AmountError.TheVariants.{Underflow}
use Rattle.amount.proofs.Amount.checked_sub.Goals as goal

pub returns-in_err-pair : goal.returns-in_err-pair
returns-in_err-pair c =
    let e : c.from_residual.result ≡ Err Underflow = search rules in
    e ∙ subtract_outside _ _ (sym c.in_err-pair.ensures.ok_part ∙ c.align.ensures)

pub returns-in_err-mantissa : goal.returns-in_err-mantissa
returns-in_err-mantissa c =
    let e : c.from_residual-in_err-mantissa.result ≡ Err Underflow = search rules in
    e ∙ subtract_less _ _ _ (sym c.in_ok-pair.ensures.ok_part ∙ c.align.ensures) (sym c.in_err-mantissa.ensures.ok_part ∙ c.checked_sub.ensures)

pub returns : goal.returns
returns c = subtract_given _ _ _ (sym c.in_ok-pair.ensures.ok_part ∙ c.align.ensures) _ (sym c.in_ok-mantissa.ensures.ok_part ∙ c.checked_sub.ensures)
