use Rattle.amount.proofs.Summing.{add_outside, add_large, add_given}
use Rattle.std.proofs.Common.{◌≡◌, Err, sym, ◌∙◌, rules}
use Rattle.amount.specs.declared.AmountError.TheVariants.{Overflow}
use Rattle.amount.proofs.Amount.checked_add.Goals as goal

pub returns-in_err-pair : goal.returns-in_err-pair
returns-in_err-pair c =
    let e : c.from_residual.result ≡ Err Overflow = search rules in
    e ∙ add_outside _ _ (sym c.in_err-pair.ensures.ok_part ∙ c.align.ensures)

pub returns-in_err-mantissa : goal.returns-in_err-mantissa
returns-in_err-mantissa c =
    let e : c.from_residual-in_err-mantissa.result ≡ Err Overflow = search rules in
    e ∙ add_large _ _ _ (sym c.in_ok-pair.ensures.ok_part ∙ c.align.ensures) (sym c.in_err-mantissa.ensures.ok_part ∙ c.checked_add.ensures)

pub returns : goal.returns
returns c = add_given _ _ _ (sym c.in_ok-pair.ensures.ok_part ∙ c.align.ensures) _ (sym c.in_ok-mantissa.ensures.ok_part ∙ c.checked_add.ensures)
