-- Reading, order, sum and difference: document 01's section "Amount".
-- An amount's value is mantissa / 10^scale, so a ≤ b is a's mantissa · 10^(b's scale) ≤ b's mantissa · 10^(a's scale).
use Rattle.std.specs.Prelude.{ℕ, ◌+◌, ◌-◌, ◌*◌, ◌^◌, max, Bool, true, cond, ◌&&◌, List, length, nat_le, nat_lt, Result, Ok, Err}
use Rattle.amount.specs.Numbers.{val, limit, halves, order_of}
use Rattle.amount.specs.Decimal.{all_digits, decimal}
use Rattle.std.specs.declared.cmp.Ordering.{Ordering}
use Rattle.std.specs.declared.cmp.Ordering.TheVariants.{Less, Equal, Greater}
use Rattle.amount.specs.declared.Amount.{Amount}
use Rattle.amount.specs.declared.Given.{Given}
use Rattle.amount.specs.declared.AmountError.{AmountError}
use Rattle.amount.specs.declared.AmountError.TheVariants.{NotWhole, Overflow, Underflow}

-- the amount of mantissa m at a scale, where a condition holds and 128 bits hold m; else the refusal
unfoldable pub amount_if : AmountError → Bool → ℕ → ℕ → Result Amount AmountError
amount_if refusal t m scale = cond (t && nat_lt m limit) (Ok (record { mantissa = halves m; scale = scale })) (Err refusal)

-- reading: 1 to 39 bytes, all digits, value at most 2^128 - 1, scale 0
unfoldable pub read_of : List ℕ → Result Amount AmountError
read_of s = amount_if NotWhole (nat_le 1 (length s) && nat_le (length s) 39 && all_digits s) (decimal s) 0

-- order by exact value, at every pair of scales
unfoldable pub compare_of : Amount → Amount → Ordering
compare_of a b = order_of (val a.mantissa * 10 ^ b.scale) (val b.mantissa * 10 ^ a.scale)

-- the lesser; b on a tie
abbrev pub lesser_by : Ordering → Amount → Amount → Amount
lesser_by Less a b = a
lesser_by Equal a b = b
lesser_by Greater a b = b

unfoldable pub min_of : Amount → Amount → Amount
min_of a b = lesser_by (compare_of a b) a b

-- the scale at which two amounts are added and subtracted: the larger
abbrev pub common_scale : Amount → Amount → ℕ
common_scale a b = max a.scale b.scale

-- the mantissa of an amount at a scale that is not below its own
unfoldable pub mantissa_at : Amount → ℕ → ℕ
mantissa_at a scale = val a.mantissa * 10 ^ (scale - a.scale)

-- fails if rescaling or the sum leaves 128 bits; a rescaled mantissa that does is a part of the sum
unfoldable pub sum_of : Amount → Amount → Result Amount AmountError
sum_of a b = amount_if Overflow true (mantissa_at a (common_scale a b) + mantissa_at b (common_scale a b)) (common_scale a b)

-- fails if rescaling leaves 128 bits or the difference is negative; what is taken is not above what it is taken from
unfoldable pub difference_of : Amount → Amount → Result Amount AmountError
difference_of a b =
    amount_if Underflow
    (nat_lt (mantissa_at a (common_scale a b)) limit && nat_le (mantissa_at b (common_scale a b)) (mantissa_at a (common_scale a b)))
    (mantissa_at a (common_scale a b) - mantissa_at b (common_scale a b))
    (common_scale a b)

-- the number that document 01's table gives each case, detail 0, and the amount: zero at scale 0 where it is a refusal
abbrev pub refused_of : ℕ → Given
refused_of number = record { number = number; detail = 0; amount = record { mantissa = record { hi = 0; lo = 0 }; scale = 0 } }

abbrev pub given_of : Result Amount AmountError → Given
given_of (Ok a) = record { number = 0; detail = 0; amount = a }
given_of (Err NotWhole) = refused_of 10
given_of (Err Overflow) = refused_of 17
given_of (Err Underflow) = refused_of 18
