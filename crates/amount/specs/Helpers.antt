-- For the functions of `amount` that C does not get: no exported contract speaks of these.
use Rattle.std.specs.Prelude.{◌≡◌, ℕ, ◌-◌, ◌/◌, ◌%◌, ◌^◌, cond, not, ◌&&◌, List, ◌==◌, nat_le, nat_lt, Option, Some, None}
use Rattle.amount.specs.declared.uint128.Division.{Division}
use Rattle.amount.specs.declared.uint128.Uint128.{Uint128}
use Rattle.amount.specs.Numbers.{limit, halves, val}
use Rattle.amount.specs.Decimal.{all_digits, decimal}
use Rattle.amount.specs.declared.Amount.{Amount}
use Rattle.amount.specs.declared.Reduced.{Reduced}
use Rattle.amount.specs.declared.Pair.{Pair}
use Rattle.amount.specs.Amounts.{common_scale, mantissa_at}

-- n, where 128 bits hold it
unfoldable pub checked : ℕ → Option Uint128
checked n = cond (nat_lt n limit) (Some (halves n)) None

-- a less b, where that is not negative
unfoldable pub checked_less : ℕ → ℕ → Option Uint128
checked_less a b = cond (nat_le b a) (Some (halves (a - b))) None

-- n divided by d, and what is left
unfoldable pub division_of : ℕ → ℕ → Division Uint128
division_of n d = record { quotient = halves (n / d); rest = n % d }

-- the number that a text of digits stands for, where it is one
unfoldable pub word_of : List ℕ → Option ℕ
word_of s = cond (all_digits s) (Some (decimal s)) None

-- both mantissas at the larger scale, where 128 bits hold them
unfoldable pub aligned_of : Amount → Amount → Option Pair
aligned_of a b =
    cond (nat_lt (mantissa_at a (common_scale a b)) limit && nat_lt (mantissa_at b (common_scale a b)) limit)
    (Some (record { left = halves (mantissa_at a (common_scale a b)); right = halves (mantissa_at b (common_scale a b)); scale = common_scale a b }))
    None

-- r is n divided by 10^d, and whether something was left
pub record ReducedBy (n d : ℕ) (r : Reduced) : Type 0 where
  pub quotient : val r.quotient ≡ n / 10 ^ d
  pub rest : r.rest ≡ not (n % 10 ^ d == 0)
