-- Over the first k indices: tests that all pass, a sum, and the value before. They serve every table of a count, entries of one size
-- and bodies without a gap, and the records of a book.
use Rattle.std.specs.Prelude.{Bool, true, ◌&&◌, ℕ, zero, suc, ◌+◌}

-- the test passes at 0 .. k - 1
unfoldable pub every : (ℕ → Bool) → ℕ → Bool
every P zero = true
every P (suc k) = every P k && P k

-- f 0 + .. + f (k - 1)
unfoldable pub sum : (ℕ → ℕ) → ℕ → ℕ
sum f zero = 0
sum f (suc k) = sum f k + f k

-- the number before the k-th, 0 before the first
unfoldable pub prior : (ℕ → ℕ) → ℕ → ℕ
prior f zero = 0
prior f (suc k) = f k
