-- 128-bit numbers: the number that two 64-bit halves stand for, and the order of numbers.
use Rattle.std.specs.Prelude.{ℕ, ◌+◌, ◌*◌, ◌/◌, ◌%◌, ◌^◌, cond, ◌==◌, nat_lt}
use Rattle.amount.specs.declared.uint128.Uint128.{Uint128}
use Rattle.std.specs.declared.cmp.Ordering.{Ordering}
use Rattle.std.specs.declared.cmp.Ordering.TheVariants.{Less, Equal, Greater}

-- the number
unfoldable pub val : Uint128 → ℕ
val x = x.hi * 2 ^ 64 + x.lo

-- the first number that 128 bits do not hold
unfoldable pub limit : ℕ
limit = 2 ^ 128

-- the halves of a number
unfoldable pub halves : ℕ → Uint128
halves n = record { hi = n / 2 ^ 64; lo = n % 2 ^ 64 }

-- how a stands to b
unfoldable pub order_of : ℕ → ℕ → Ordering
order_of a b = cond (nat_lt a b) Less (cond (a == b) Equal Greater)
