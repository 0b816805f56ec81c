-- Laws of a mantissa that is multiplied by ten, place by place.
use Rattle.std.proofs.Common.{◌≡◌, ℕ, ◌+◌, ◌*◌, ◌^◌, ◌<◌, ◌≤◌, Some, None, mul_assoc, mul-le-mul_left, arith}
use native.Mathlib.Nat.{pow-le-pow_right}
use Rattle.amount.specs.Numbers.{val}
use Rattle.amount.specs.Helpers.{checked}
use Rattle.amount.specs.declared.uint128.Uint128.{Uint128}
use Rattle.amount.proofs.Halves.{Whole, whole_halves, val_of, checked_is, checked_none, checked_fits, checked_large}
use Rattle.amount.proofs.Scaling.{ten_more}

-- `number` is m at k places more
module _ (m : ℕ) (number : Uint128) (k : ℕ) (e : val number ≡ m * 10 ^ k) where
  pub scaled_all : Whole number → Some number ≡ checked (m * 10 ^ k)
  scaled_all w = checked_fits (rw e at w.fits) (rw e at w.whole)

  ten_times : val number * 10 + 0 ≡ m * 10 ^ (k + 1)
  ten_times = rw (e, ten_more k, mul_assoc m (10 ^ k) 10) (omega arith)

  pub scaled_over : (places : ℕ) → k < places → None ≡ checked (val number * 10 + 0) → None ≡ checked (m * 10 ^ places)
  scaled_over places l f =
      let j : k + 1 ≤ places = omega arith in
      checked_large (omega (arith, checked_none _ f, ten_times, mul-le-mul_left m (pow-le-pow_right {n = 10} (omega arith) j)))

  pub scaled_more : (next : Uint128) → Some next ≡ checked (val number * 10 + 0) → (val next ≡ m * 10 ^ (k + 1)) × Whole next
  scaled_more next f = let w = checked_is _ next f in (rw ten_times at (val_of w.1), whole_halves w.0 w.1)
