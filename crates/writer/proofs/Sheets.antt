-- The stack's and the balance's sheet are that of `put_holding` at their forms.
use mathlib.Core.Path.{◌≡◌, refl}
use mathlib.Core.List.{List}
use Prim.Native.Nat.{ℕ}
use Rattle.amount.specs.declared.Amount.{Amount}
use Rattle.sheet.specs.Sheet.{stack_form, balance_form}
use Rattle.writer.specs.Encode.{holding_sheet, stack_sheet, balance_sheet}

pub stack_is_holding : (x y : List ℕ) (a : Amount) → holding_sheet stack_form x y a ≡ stack_sheet x y a
unfolding stack_sheet
stack_is_holding x y a = refl

pub balance_is_holding : (x y : List ℕ) (a : Amount) → holding_sheet balance_form x y a ≡ balance_sheet x y a
unfolding balance_sheet
balance_is_holding x y a = refl
