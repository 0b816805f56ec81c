-- Test 28 and the total as one answer, and a sum by halves.
use Rattle.std.specs.Prelude.{◌≡◌, ℕ, ◌+◌, ◌*◌, ◌^◌, ◌≤◌, cond, Option, Some, None}
use Rattle.amount.specs.Numbers.{halves}
use Rattle.amount.specs.declared.uint128.Uint128.{Uint128}
use Rattle.book.specs.Book.{is_well_formed, total}
use Rattle.book.specs.declared.Book.{Book}
use Rattle.audit.specs.declared.totals.HalfSums.{HalfSums}

-- the total of a book that passes test 28
unfoldable pub total_of : Book → Option Uint128
total_of b = cond (is_well_formed b) (Some (halves (total b))) None

-- ---- for private helpers

-- the number that a sum by halves stands for
unfoldable pub sum_in : HalfSums → ℕ
sum_in s = (s.above * 2 ^ 64 + s.hi + s.carries) * 2 ^ 64 + s.lo

-- r is the sum s and n more, and has counted at most once more
pub record Added (s : HalfSums) (n : ℕ) (r : HalfSums) : Type 0 where
  pub sum : sum_in r ≡ sum_in s + n
  pub above : r.above ≤ s.above + 1
  pub carries : r.carries ≤ s.carries + 1
