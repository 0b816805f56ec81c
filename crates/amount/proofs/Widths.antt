-- Laws of the width of a number: how many digits it has.
use Rattle.std.proofs.Common.{◌≡◌, ℕ, zero, suc, ◌+◌, ◌-◌, ◌/◌, ◌^◌, ◌<◌, ◌≤◌, refl, subst, ⊎_elim, lt_trans, lt_of_lt_of_le, lt_of_le_of_lt, div-lt_iff_lt-mul, pow-suc, le-div_iff_mul-le, div-le_self, not-le_of_lt, arith, lit<, pow-add, le-ltb, lt-ltb}
use Prim.{absurd}
use Rattle.std.proofs.lemmas.Bool.{cases_lt}
use native.Mathlib.Nat.{pow-le-pow_right}
use Rattle.amount.specs.Numbers.{limit}
use Rattle.amount.specs.Canonical.{width_up_to, width_of}
use Rattle.amount.proofs.Scaling.{ten_pos, ten_more}

-- one digit, or one more than the tenth has
pub width_stop : (k n : ℕ) → n < 10 → width_up_to k n ≡ 1
unfolding width_up_to
width_stop zero n l = refl
width_stop (suc k) n l = rw (lt-ltb n 10 l)

width_next : (k n : ℕ) → 10 ≤ n → width_up_to (suc k) n ≡ suc (width_up_to k (n / 10))
unfolding width_up_to
width_next k n l = rw (le-ltb n 10 l)

-- between 1 and k + 1 digits
pub width_bounds : (k n : ℕ) → (1 ≤ width_up_to k n) × (width_up_to k n ≤ k + 1)
unfolding width_up_to
width_bounds zero n = (omega arith, omega arith)
width_bounds (suc k) n =
    ⊎_elim (λ h. (omega (arith, width_stop (suc k) n h), omega (arith, width_stop (suc k) n h)))
    (λ h. let w = width_bounds k (n / 10) in (omega (arith, width_next k n h), omega (arith, width_next k n h)))
    (cases_lt n 10)

-- n has as many digits as its width, and no fewer
lower_next : (k n : ℕ) → 10 ≤ n → 10 ^ (width_up_to k (n / 10) - 1) ≤ n / 10 → 10 ^ (width_up_to (suc k) n - 1) ≤ n
lower_next k n l i =
    let e : suc (width_up_to k (n / 10)) - 1 ≡ (width_up_to k (n / 10) - 1) + 1 = omega (arith, width_bounds k (n / 10)) in
    rw (width_next k n l, e, ten_more (width_up_to k (n / 10) - 1)) (omega (arith, i))

pub width_lower : (k n : ℕ) → 0 < n → 10 ^ (width_up_to k n - 1) ≤ n
unfolding width_up_to
width_lower zero n h = h
width_lower (suc k) n h =
    ⊎_elim (λ l. rw (width_stop (suc k) n l) h) (λ l. lower_next k n l (width_lower k (n / 10) (omega arith)))
    (cases_lt n 10)

upper_next : (k n : ℕ) → 10 ≤ n → n / 10 < 10 ^ width_up_to k (n / 10) → n < 10 ^ width_up_to (suc k) n
upper_next k n l i = rw (width_next k n l, pow-suc 10 (width_up_to k (n / 10))) (omega (arith, i))

pub width_upper : (k n : ℕ) → n < 10 ^ suc k → n < 10 ^ width_up_to k n
unfolding width_up_to
width_upper zero n h = h
width_upper (suc k) n h =
    let i : n / 10 < 10 ^ suc k = omega (arith, pow-suc 10 (suc k)) in
    ⊎_elim (λ l. rw (width_stop (suc k) n l) l) (λ l. upper_next k n l (width_upper k (n / 10) i))
    (cases_lt n 10)

-- a number below 2^128 has at most 39 digits
pub small : (n : ℕ) → n < limit → n < 10 ^ 39
unfolding limit
small n f = lt_trans f (lit< tt)

only_width : (n v w : ℕ) → 10 ^ v ≤ n → n < 10 ^ suc w → v ≤ w
only_width n v w l u =
    ⊎_elim (λ h. omega arith)
    (λ h. absurd (not-le_of_lt (lt_of_lt_of_le u (pow-le-pow_right {n = 10} (omega arith) h)) l))
    (cases_lt v (suc w))

-- n / 10^j has j digits less
pub width_shift : (j n : ℕ) → n < limit → 10 ^ j ≤ n → width_of n ≡ width_of (n / 10 ^ j) + j
unfolding width_of
width_shift j n f l =
    let q : ℕ = n / 10 ^ j in
    let v : ℕ = width_up_to 38 n in
    let w : ℕ = width_up_to 38 q in
    let p : 1 ≤ q = (le-div_iff_mul-le (ten_pos j)).1 (omega arith) in
    let g : q < limit = lt_of_le_of_lt (div-le_self n (10 ^ j)) f in
    let a : 10 ^ (w - 1 + j) ≤ n = rw (pow-add 10 (w - 1) j) ((le-div_iff_mul-le (ten_pos j)).0 (width_lower 38 q p)) in
    let b : n < 10 ^ (w + j) = rw (pow-add 10 w j) ((div-lt_iff_lt-mul (ten_pos j)).0 (width_upper 38 q (small q g))) in
    let c : 10 ^ (v - 1) ≤ n = width_lower 38 n (lt_of_lt_of_le (ten_pos j) l) in
    let d : n < 10 ^ v = width_upper 38 n (small n f) in
    let x : w + j ≡ suc (w + j - 1) = omega (arith, width_bounds 38 q) in
    let y : v ≡ suc (v - 1) = omega (arith, width_bounds 38 n) in
    omega (arith, only_width n (v - 1) (w + j - 1) c (subst (λ (k : ℕ). n < 10 ^ k) x b), only_width n (w - 1 + j) (v - 1) a (subst (λ (k : ℕ). n < 10 ^ k) y d), width_bounds 38 q, width_bounds 38 n)

-- `count` digits of n are passed, and `rest` is what is left of n
pub record Counting (n count rest : ℕ) : Type 0 where
  pub fits : rest < limit
  pub total : width_of n ≡ count + width_of rest

pub counting_none : (n : ℕ) → n < limit → Counting n 0 n
counting_none n f = record { fits = f; total = omega arith }

module _ {n count rest : ℕ} (h : Counting n count rest) where
  pub counting_room : count ≤ 38
  unfolding width_of
  counting_room = omega (arith, h.total, width_bounds 38 n, width_bounds 38 rest)

  pub counting_more : (j : ℕ) → 10 ^ j ≤ rest → Counting n (count + j) (rest / 10 ^ j)
  counting_more j l =
      record {
        fits = lt_of_le_of_lt (div-le_self rest (10 ^ j)) h.fits;
        total = omega (arith, h.total, width_shift j rest h.fits l);
      }

  pub counting_end : rest < 10 → count + 1 ≡ width_of n
  unfolding width_of
  counting_end l = omega (arith, h.total, width_stop 38 rest l)
