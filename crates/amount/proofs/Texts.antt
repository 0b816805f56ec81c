-- Laws of decimal text: the digits of a number read back, and a text cut at its point.
use Rattle.std.proofs.Common.{◌≡◌, ℕ, zero, suc, ◌+◌, ◌-◌, ◌*◌, ◌/◌, ◌%◌, ◌^◌, ◌<◌, true, false, eqb, leb, List, [], ◌∷◌, ◌++◌, get_or, refl, ◌∙◌, mod-eq_of_lt, mul_assoc, mul_comm, add-mul, pow-suc, div-one, arith, ne_eqb, leb-true}
use lib.Arith.{mod-mul}
use Rattle.std.proofs.lemmas.Bool.{and_parts}
use Rattle.amount.specs.Decimal.{is_digit, all_digits, digits_after, decimal}
use Rattle.amount.specs.Canonical.{last_digits}
use Rattle.amount.specs.Texts.{pointed, before_point, behind_point}
use Rattle.amount.proofs.Reading.{digit_byte, number_append}
use Rattle.amount.proofs.Scaling.{ten_pos}

-- digits are digits, together and apart
pub digits_are : (k n : ℕ) → all_digits (last_digits k n) ≡ true
unfolding last_digits all_digits
digits_are zero n = refl
digits_are (suc k) n = digit_byte (48 + n / 10 ^ k % 10) _ (omega arith) (omega arith) ∙ digits_are k n

pub digits_append : (s t : List ℕ) → all_digits s ≡ true → all_digits t ≡ true → all_digits (s ++ t) ≡ true
unfolding all_digits
digits_append [] t p q = q
digits_append (b ∷ s) t p q = rw (and_parts (is_digit b) (all_digits s) p).0 (digits_append s t (and_parts (is_digit b) (all_digits s) p).1 q)

-- the number of a number's last digits
mod_next : (m k : ℕ) → m % (10 ^ k * 10) ≡ m / 10 ^ k % 10 * 10 ^ k + m % 10 ^ k
mod_next m k = rw (mul_comm (10 ^ k) 10) (mod-mul m {m = 10} {c = 10 ^ k} (omega arith) (ten_pos k))

number_digits : (k n m : ℕ) → digits_after n (last_digits k m) ≡ n * 10 ^ k + m % 10 ^ k
unfolding last_digits digits_after
number_digits zero n m = omega arith
number_digits (suc k) n m =
    let d : ℕ = m / 10 ^ k % 10 in
    let e : 48 + d - 48 ≡ d = omega arith in
    let b : n * 10 * 10 ^ k ≡ n * (10 ^ k * 10) = mul_assoc n 10 (10 ^ k) ∙ rw (mul_comm 10 (10 ^ k)) in
    number_digits k (n * 10 + (48 + d - 48)) m
    ∙ rw (e, pow-suc 10 k, mod_next m k) (omega (arith, add-mul (n * 10) d (10 ^ k), b))

-- a text in two parts, the second a number's last digits
pub number_parts : (s : List ℕ) (k m : ℕ) → decimal (s ++ last_digits k m) ≡ decimal s * 10 ^ k + m % 10 ^ k
unfolding decimal
number_parts s k m = number_append 0 s (last_digits k m) ∙ number_digits k (digits_after 0 s) m

-- a number of at most k digits is that of its last k digits
pub number_whole : (k n : ℕ) → n < 10 ^ k → decimal (last_digits k n) ≡ n
unfolding decimal
number_whole k n h = number_digits k 0 n ∙ rw (mod-eq_of_lt h) (omega arith)

-- the last digit
pub last_digit : (k n : ℕ) → get_or (last_digits (suc k) n) k 0 ≡ 48 + n % 10
unfolding last_digits
last_digit zero n = rw (div-one n)
last_digit (suc k) n = last_digit k n

-- a text with no point, and one with a point behind its digits
not_point : (b : ℕ) → is_digit b ≡ true → eqb b 46 ≡ false
not_point b h = ne_eqb b 46 (λ e. let l = leb-true 48 b (and_parts (leb 48 b) (leb b 57) h).0 in omega arith)

module _ (rest : List ℕ) where
  pub before_point_lem : (s : List ℕ) → all_digits s ≡ true → before_point (s ++ (46 ∷ rest)) ≡ s
  unfolding all_digits before_point
  before_point_lem [] h = refl
  before_point_lem (b ∷ s) h = rw (not_point b (and_parts (is_digit b) (all_digits s) h).0, before_point_lem s (and_parts (is_digit b) (all_digits s) h).1)

  pub behind_point_lem : (s : List ℕ) → all_digits s ≡ true → behind_point (s ++ (46 ∷ rest)) ≡ rest
  unfolding all_digits behind_point
  behind_point_lem [] h = refl
  behind_point_lem (b ∷ s) h = rw (not_point b (and_parts (is_digit b) (all_digits s) h).0) (behind_point_lem s (and_parts (is_digit b) (all_digits s) h).1)

-- all of a text of digits stands before the point that it has not
pub record Unpointed (s : List ℕ) : Type 0 where
  pub before : before_point s ≡ s
  pub behind : behind_point s ≡ []
  pub point : pointed s ≡ false

pub unpointed : (s : List ℕ) → all_digits s ≡ true → Unpointed s
unfolding all_digits before_point behind_point pointed
unpointed [] h = record { before = refl; behind = refl; point = refl }
unpointed (b ∷ s) h =
    let u = unpointed s (and_parts (is_digit b) (all_digits s) h).1 in
    let n = not_point b (and_parts (is_digit b) (all_digits s) h).0 in
    record { before = rw (n, u.before); behind = rw n u.behind; point = rw n u.point }
