-- Laws of digits that are written from the back, into zeros.
use Rattle.std.proofs.Common.{◌≡◌, ℕ, zero, suc, ◌+◌, ◌-◌, ◌*◌, ◌/◌, ◌%◌, ◌^◌, ◌<◌, ◌≤◌, List, ◌∷◌, ◌++◌, set, replicate, sym, refl, ap, ◌∙◌, append_assoc, add-zero, add-suc, mod-lt, div-one, add-one, arith, pow-add}
use native.Mathlib.Nat.{div-div-eq-div-mul}
use lib.Arith.{mod-mul, digits_div}
use Rattle.amount.specs.Canonical.{last_digits, zeros}
use Rattle.amount.specs.Helpers.{division_of}
use Rattle.amount.specs.declared.uint128.Division.{Division}
use Rattle.amount.specs.declared.uint128.Uint128.{Uint128}
use Rattle.amount.proofs.Halves.{division_rest}
use Rattle.amount.proofs.Scaling.{ten_pos, ten_more}

-- a store in front of what is written, into zeros
set_zeros : (p x : ℕ) (xs : List ℕ) → set (replicate (suc p) 0 ++ xs) p x ≡ replicate p 0 ++ (x ∷ xs)
set_zeros zero x xs = refl
set_zeros (suc p) x xs = ap (λ (l : List ℕ). 0 ∷ l) (set_zeros p x xs)

put_before : (p x : ℕ) (xs : List ℕ) → set (zeros (p + 1) ++ xs) p x ≡ zeros p ++ (x ∷ xs)
unfolding zeros
put_before p x xs = rw (add-one p) (set_zeros p x xs)

put_at : (t p x : ℕ) (xs : List ℕ) → t ≡ p + 1 → set (zeros t ++ xs) p x ≡ zeros p ++ (x ∷ xs)
put_at t p x xs e = rw e (put_before p x xs)

pub put_point : (b : List ℕ) (p : ℕ) (xs : List ℕ) → b ≡ zeros (p + 1) ++ xs → set b p 46 ≡ zeros p ++ (46 ∷ xs)
put_point b p xs e = rw e (put_before p 46 xs)

-- the last j + k digits of n
digits_split : (k j n : ℕ) → last_digits (j + k) n ≡ last_digits k (n / 10 ^ j) ++ last_digits j n
unfolding last_digits
digits_split zero j n = rw (add-zero j)
digits_split (suc k) j n =
    rw (add-suc j k, div-div-eq-div-mul n (10 ^ j) (10 ^ k), ← pow-add 10 j k) (ap (λ (l : List ℕ). (48 + n / 10 ^ (j + k) % 10) ∷ l) (digits_split k j n))

-- the last k digits of n are in what n / 10^j leaves, where k is at most j
ten_split : (k j : ℕ) → k < j → 10 ^ j ≡ 10 ^ (j - k - 1) * 10 * 10 ^ k
ten_split k j h =
    let e : j ≡ j - k - 1 + 1 + k = omega arith in
    ap (λ (x : ℕ). 10 ^ x) e ∙ rw (pow-add 10 (j - k - 1 + 1) k, ten_more (j - k - 1))

digit_tail : (k j n : ℕ) → k < j → n % 10 ^ j / 10 ^ k % 10 ≡ n / 10 ^ k % 10
digit_tail k j n h =
    let i = j - k - 1 in
    rw (ten_split k j h, mod-mul n {m = 10 ^ i * 10} {c = 10 ^ k} (omega (arith, ten_pos i)) (ten_pos k), digits_div (n / 10 ^ k % (10 ^ i * 10)) (mod-lt n (ten_pos k)), mod-mul (n / 10 ^ k) {m = 10 ^ i} {c = 10} (ten_pos i) (omega arith))
    (omega arith)

digits_tail : (k j n : ℕ) → k ≤ j → last_digits k (n % 10 ^ j) ≡ last_digits k n
unfolding last_digits
digits_tail zero j n h = refl
digits_tail (suc k) j n h = rw (digit_tail k j n h, digits_tail k j n (omega arith))

-- one digit
pub put_digit : (b : List ℕ) (t q : ℕ) → 0 < t → (rest : List ℕ) → b ≡ zeros t ++ rest → set b (t - 1) (48 + q % 10) ≡ zeros (t - 1) ++ (last_digits 1 q ++ rest)
unfolding last_digits
put_digit b t q h rest e = rw (e, div-one q) (put_at t (t - 1) (48 + q % 10) rest (omega arith))

-- after k digits of n, written before the place `at` of `first`, with `b` the bytes and q what is left of n
pub record Writing (first : List ℕ) (at n : ℕ) (b : List ℕ) (q k : ℕ) : Type 0 where
  pub left : q ≡ n / 10 ^ k
  pub bytes : (rest : List ℕ) → first ≡ zeros at ++ rest → b ≡ zeros (at - k) ++ (last_digits k n ++ rest)

pub writing_none : (b : List ℕ) (at n : ℕ) → Writing b at n b n 0
unfolding last_digits
writing_none b at n =
    record { left = sym (div-one n); bytes = λ rest e. let z : at - 0 ≡ at = omega arith in rw z e }

-- j digits more: they are the last ones of q, and p is what is left
pub writing_more : {first : List ℕ} {at n : ℕ} {b : List ℕ} {q k : ℕ} → Writing first at n b q k → (j p x : ℕ) → p ≡ q / 10 ^ j → last_digits j x ≡ last_digits j q → (c : List ℕ) → ((rest : List ℕ) → b ≡ zeros (at - k) ++ rest → c ≡ zeros (at - k - j) ++ (last_digits j x ++ rest)) → Writing first at n c p (k + j)
writing_more {first} {at} {n} {b} {q} {k} h j p x d e c g =
    record {
      left = rw (d, h.left, pow-add 10 k j) (div-div-eq-div-mul n (10 ^ k) (10 ^ j));
      bytes =
          λ rest f.
          let y : at - (k + j) ≡ at - k - j = omega arith in
          rw (y, digits_split j k n, ← h.left, ← e, append_assoc (last_digits j x) (last_digits k n) rest) (g (last_digits k n ++ rest) (h.bytes rest f));
    }

pub writing_all : {first : List ℕ} {at n : ℕ} {b : List ℕ} {q k : ℕ} (count : ℕ) → k ≡ count → Writing first at n b q k → (rest : List ℕ) → first ≡ zeros at ++ rest → b ≡ zeros (at - count) ++ (last_digits count n ++ rest)
writing_all count e h rest f = rw (← e) (h.bytes rest f)

-- what a division by 10^9 leaves has the last nine digits
pub rest_digits : (k q : ℕ) {x : Division Uint128} → x ≡ division_of q (10 ^ 9) → k ≤ 9 → last_digits k x.rest ≡ last_digits k q
rest_digits k q e h = rw (e, division_rest q (10 ^ 9)) (digits_tail k 9 q h)
