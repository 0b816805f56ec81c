-- The canonical decimal text of an amount: no trailing zero after the point, no bare point, `0` before a leading point.
use Rattle.std.specs.Prelude.{ℕ, zero, suc, ◌+◌, ◌-◌, ◌/◌, ◌%◌, ◌^◌, cond, List, [], ◌∷◌, ◌++◌, length, replicate, ◌==◌, nat_lt}
use Rattle.amount.specs.Numbers.{val, halves}
use Rattle.amount.specs.declared.Amount.{Amount}
use Rattle.amount.specs.declared.text.Text.{Text}

-- mantissa m at a scale, with the zeros at its end that stand after the point taken away
unfoldable pub strip : ℕ → ℕ → Amount
strip zero m = record { mantissa = halves m; scale = 0 }
strip (suc s) m = cond (m % 10 == 0) (strip s (m / 10)) (record { mantissa = halves m; scale = suc s })

-- the last k digits of n
unfoldable pub last_digits : ℕ → ℕ → List ℕ
last_digits zero n = []
last_digits (suc k) n = (48 + n / 10 ^ k % 10) ∷ last_digits k n

-- how many digits n has, at most k + 1
unfoldable pub width_up_to : ℕ → ℕ → ℕ
width_up_to zero n = 1
width_up_to (suc k) n = cond (nat_lt n 10) 1 (suc (width_up_to k (n / 10)))

-- how many digits n has; a number below 2^128 has at most 39
unfoldable pub width_of : ℕ → ℕ
width_of n = width_up_to 38 n

-- a whole number in decimal
unfoldable pub whole_text : ℕ → List ℕ
whole_text n = last_digits (width_of n) n

-- m / 10^s in decimal: the whole part, and behind a point s digits more
unfoldable pub decimal_text : ℕ → ℕ → List ℕ
decimal_text m zero = whole_text m
decimal_text m (suc s) = whole_text (m / 10 ^ suc s) ++ (46 ∷ last_digits (suc s) m)

-- the same value with no zero at its end after the point
abbrev pub lowest : Amount → Amount
lowest a = strip a.scale (val a.mantissa)

-- the text of an amount
unfoldable pub canonical_text : Amount → List ℕ
canonical_text a = decimal_text (val (lowest a).mantissa) (lowest a).scale

unfoldable pub zeros : ℕ → List ℕ
zeros n = replicate n 0

-- a text in a fixed array, filled up with zeros
unfoldable pub as_text : List ℕ → Text
as_text l = record { bytes = l ++ zeros (257 - length l); len = length l }
