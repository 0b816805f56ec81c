-- What a decimal text says, for the theorems on the canonical text: the digits before and behind its point, and its value.
use Rattle.std.specs.Prelude.{◌≡◌, ℕ, ◌-◌, ◌*◌, ◌^◌, ◌<◌, ◌≤◌, Bool, true, false, cond, ◌||◌, List, [], ◌∷◌, ◌++◌, length, ◌==◌, slice_index_or}
use Rattle.amount.specs.Numbers.{val, limit}
use Rattle.amount.specs.Decimal.{all_digits, decimal}
use Rattle.amount.specs.declared.Amount.{Amount}

-- whether the text has a point
unfoldable pub pointed : List ℕ → Bool
pointed [] = false
pointed (b ∷ s) = b == 46 || pointed s

-- the bytes before the first point: all of them where there is none
unfoldable pub before_point : List ℕ → List ℕ
before_point [] = []
before_point (b ∷ s) = cond (b == 46) [] (b ∷ before_point s)

-- the bytes behind it
unfoldable pub behind_point : List ℕ → List ℕ
behind_point [] = []
behind_point (b ∷ s) = cond (b == 46) s (behind_point s)

-- the text's digits as one number; its value is this over ten to the number of digits behind the point
unfoldable pub digits_in : List ℕ → ℕ
digits_in s = decimal (before_point s ++ behind_point s)

unfoldable pub places_in : List ℕ → ℕ
places_in s = length (behind_point s)

-- m / 10^s and n / 10^t are the same value
abbrev pub Same : ℕ → ℕ → ℕ → ℕ → Type 0
Same m s n t = m * 10 ^ t ≡ n * 10 ^ s

abbrev pub SameValue : Amount → Amount → Type 0
SameValue a b = Same (val a.mantissa) a.scale (val b.mantissa) b.scale

-- an amount as document 01 has it: mantissa 0 to 2^128 - 1, scale 0 to 255
pub record InRange (a : Amount) : Type 0 where
  pub mantissa : val a.mantissa < limit
  pub scale : a.scale ≤ 255

-- the form of a canonical text
pub record Canonical (s : List ℕ) : Type 0 where
  -- only digits, but for one point
  pub digits : all_digits (before_point s ++ behind_point s) ≡ true
  -- at least one digit before the point, and no leading zero but in `0` itself
  pub whole : 1 ≤ length (before_point s)
  pub no_leading_zero : slice_index_or s 0 0 ≡ 48 → length (before_point s) ≡ 1
  -- no bare point, no trailing zero behind it
  pub no_bare_point : pointed s ≡ true → 1 ≤ length (behind_point s)
  pub no_trailing_zero : slice_index_or (behind_point s) (length (behind_point s) - 1) 0 ≡ 48 → ⊥
  -- 1 to 257 bytes
  pub some : 1 ≤ length s
  pub few : length s ≤ 257
