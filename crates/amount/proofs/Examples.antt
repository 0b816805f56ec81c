-- Document 01's section "Amount" on worked amounts, by computation: the order where no 128 bits hold the rescaled mantissa, and sums and
-- differences at the larger scale.
use Rattle.std.proofs.Common.{◌≡◌, ℕ, ◌-◌, ◌*◌, ◌%◌, ◌^◌, Ok, Err, refl, arith}
use Rattle.amount.specs.Numbers.{val, limit, halves, order_of}
use Rattle.amount.specs.Amounts.{amount_if, mantissa_at, compare_of, sum_of, difference_of}
use Rattle.amount.specs.declared.Amount.{Amount}
use Rattle.amount.specs.declared.AmountError.TheVariants.{Overflow, Underflow}
use Rattle.std.specs.declared.cmp.Ordering.TheVariants.{Less, Equal, Greater}

abbrev at : ℕ → ℕ → Amount
at m s = record { mantissa = halves m; scale = s }

-- 2^127 · 10 is 0 in 128 bits
compared : (compare_of (at (2 ^ 127) 0) (at 1 1) ≡ Greater) × (compare_of (at 1 1) (at (2 ^ 127) 0) ≡ Less) × (compare_of (at 10 1) (at 1 0) ≡ Equal)
    × (compare_of (at (2 ^ 128 - 1) 255) (at (2 ^ 128 - 1) 254) ≡ Less)
unfolding val limit halves order_of compare_of
compared = (refl, refl, refl, refl)

-- by rescaling in 128 bits the first of these would be the lesser
not_rescaled : order_of (val (at (2 ^ 127) 0).mantissa * 10 ^ 1 % limit) (val (at 1 1).mantissa * 10 ^ 0) ≡ compare_of (at (2 ^ 127) 0) (at 1 1) → ⊥
unfolding val limit halves order_of compare_of
not_rescaled h = let z : ◌≡◌ {A = ℕ} 0 1 = cc in absurd (omega arith)

summed : (sum_of (at 15 1) (at 1 0) ≡ Ok (at 25 1)) × (sum_of (at (2 ^ 128 - 1) 0) (at 1 0) ≡ Err Overflow) × (sum_of (at (2 ^ 128 - 1) 0) (at 0 1) ≡ Err Overflow)
    × (difference_of (at 15 1) (at 1 0) ≡ Ok (at 5 1)) × (difference_of (at 1 0) (at 2 0) ≡ Err Underflow) × (difference_of (at (2 ^ 64) 0) (at 1 0) ≡ Ok (at (2 ^ 64 - 1) 0))
unfolding val limit halves amount_if mantissa_at sum_of difference_of
summed = (refl, refl, refl, refl, refl, refl)
