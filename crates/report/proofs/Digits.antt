-- Laws of the numbers and amounts that a listing prints, and of the sizes of sets.
use mathlib.Core.Path.{◌≡◌}
use mathlib.Core.List.{List, [], ◌∷◌}
use Prim.Native.Nat.{ℕ, zero, suc, ◌+◌, ◌/◌, ◌%◌, ◌^◌, ◌≤◌, ◌<◌}
use native.Mathlib.Omega.{arith}
use native.Mathlib.Nat.{div-one}
use borrow.Author.Tests.{lt-ltb, le-ltb}
use lib.Count.{ones, ones_step, ones-le}
use lib.ListN.{length, take}
use lib.Seq.{take-append_seam}
use Rattle.amount.specs.Numbers.{val, halves}
use Rattle.amount.specs.Canonical.{whole_text, width_of, width_up_to, last_digits, strip, decimal_text, canonical_text, as_text}
use Rattle.amount.specs.declared.Amount.{Amount}
use Rattle.amount.specs.declared.text.Text.{Text}
use Rattle.amount.proofs.Cutting.{whole_length}
use Rattle.amount.proofs.Assembling.{width_few}
use Rattle.sheet.specs.Walk.{sum}
use Rattle.book.specs.Sets.{bit}
use Rattle.report.specs.Listing.{members}

-- ---- numbers below 1000

pub one_digit : (n : ℕ) → n < 10 → (48 + n % 10) ∷ [] ≡ whole_text n
unfolding whole_text width_of width_up_to last_digits
one_digit n h = rw (lt-ltb n 10 h, div-one n)

pub two_digits : (n : ℕ) → 10 ≤ n → n < 100 → (48 + n / 10 % 10) ∷ (48 + n % 10) ∷ [] ≡ whole_text n
unfolding whole_text width_of width_up_to last_digits
two_digits n g h = rw (le-ltb n 10 g, lt-ltb (n / 10) 10 (omega arith), div-one n)

pub three_digits : (n : ℕ) → 100 ≤ n → n < 1000 → (48 + n / 100) ∷ (48 + n / 10 % 10) ∷ (48 + n % 10) ∷ [] ≡ whole_text n
unfolding whole_text width_of width_up_to last_digits
three_digits n g h =
    let e : n / 100 % 10 ≡ n / 100 = omega arith in
    rw (le-ltb n 10 (omega arith), le-ltb (n / 10) 10 (omega arith), lt-ltb (n / 10 / 10) 10 (omega arith), div-one n, e)

-- ---- the text of an amount

pub few_bytes : (a : Amount) → a.scale ≡ 0 → length (canonical_text a) ≤ 39
unfolding canonical_text strip decimal_text
few_bytes a z = rw z (omega (arith, whole_length (val (halves (val a.mantissa))), width_few (val (halves (val a.mantissa)))))

pub first_bytes : (l : List ℕ) (t : Text) → t ≡ as_text l → take t.len t.bytes ≡ l
unfolding as_text
first_bytes l t e = rw e (take-append_seam l _)

-- ---- the size of a set

sum_front : (f : ℕ → ℕ) (k : ℕ) → sum f (suc k) ≡ f zero + sum (λ j. f (suc j)) k
unfolding sum
sum_front f zero = omega arith
sum_front f (suc k) = omega (arith, sum_front f k)

-- the ones of its number
pub ones_members : (k n : ℕ) → n < 2 ^ k → ones n ≡ members k n
unfolding members sum bit
ones_members zero n h = let z : n ≡ 0 = omega arith in rw z (omega (arith, ones-le 0 0 (omega arith)))
ones_members (suc k) n h = omega (arith, ones_step n, ones_members k (n / 2) (omega arith), sum_front (bit n) k)
