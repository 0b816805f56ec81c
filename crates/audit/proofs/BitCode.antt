-- What the code's shifts and masks are of the sets of specs/Sets.antt.
use Rattle.std.proofs.Common.{◌≡◌, ℕ, eqb, zero, suc, ◌-◌, ◌*◌, ◌/◌, ◌%◌, ◌^◌, ◌<◌, sym, ap, ◌∙◌, le_of_suc-le-suc, not-suc-le-zero, mod-eq_of_lt, mul_comm, pow-suc, arith, pow_pos}
use native.Mathlib.Nat.{div-div-eq-div-mul}
use lib.Bits.{bit_and, bit_or, and_step, or_step, or_zero_r, and_mask}
use lib.Pow.{pow-lt}
use Rattle.book.specs.Sets.{bit, with_bit}

pub bit_shift : (n p : ℕ) → bit n p ≡ n / 2 ^ p % 2
unfolding bit
bit_shift n zero = omega arith
bit_shift n (suc p) =
    bit_shift (n / 2) p
    ∙ ap (λ (x : ℕ). x % 2) (div-div-eq-div-mul n 2 (2 ^ p) ∙ ap (λ (x : ℕ). n / x) (mul_comm 2 (2 ^ p) ∙ sym (pow-suc 2 p)))

pub bit_mask : (n : ℕ) → bit_and n 1 ≡ n % 2
bit_mask n = and_mask n 1

-- bit p, as the code looks at it
pub bit_found : (n p : ℕ) → eqb (bit_and (n / 2 ^ p) 1) 1 ≡ eqb (bit n p) 1
bit_found n p = rw (bit_mask (n / 2 ^ p), ← (bit_shift n p))

pub or_bit : (n p : ℕ) → bit_or n (2 ^ p) ≡ with_bit n p 1
unfolding with_bit
or_bit n zero = rw (or_step n 1, or_zero_r) (omega arith)
or_bit n (suc p) =
    let h : 2 ^ suc p / 2 ≡ 2 ^ p = omega arith in
    let k : 2 ^ suc p % 2 ≡ 0 = omega arith in
    let r : bit_or (n / 2) (2 ^ p) ≡ with_bit (n / 2) p 1 = or_bit (n / 2) p in
    or_step n (2 ^ suc p) ∙ rw (h, k, r) (omega arith)

pub and_bit : (k n p : ℕ) → n < 2 ^ k → p < k → bit_and n (2 ^ k - 1 - 2 ^ p) ≡ with_bit n p 0
unfolding with_bit
and_bit zero n p l h = absurd (not-suc-le-zero h)
and_bit (suc k) n zero l h =
    let e : (2 ^ suc k - 1 - 1) / 2 ≡ 2 ^ k - 1 = omega (arith, pow_pos k) in
    let z : (2 ^ suc k - 1 - 1) % 2 ≡ 0 = omega (arith, pow_pos k) in
    let m : n / 2 % 2 ^ k ≡ n / 2 = mod-eq_of_lt (omega arith) in
    and_step n (2 ^ suc k - 1 - 1) ∙ rw (e, z, and_mask (n / 2) k, m) (omega arith)
and_bit (suc k) n (suc p) l h =
    let r : bit_and (n / 2) (2 ^ k - 1 - 2 ^ p) ≡ with_bit (n / 2) p 0 = and_bit k (n / 2) p (omega arith) (le_of_suc-le-suc h) in
    let b : 2 ^ p < 2 ^ k = pow-lt (le_of_suc-le-suc h) in
    let e : (2 ^ suc k - 1 - 2 ^ suc p) / 2 ≡ 2 ^ k - 1 - 2 ^ p = omega arith in
    let z : (2 ^ suc k - 1 - 2 ^ suc p) % 2 ≡ 1 = omega arith in
    and_step n (2 ^ suc k - 1 - 2 ^ suc p) ∙ rw (e, z, r) (omega arith)

-- 1 << p, in w bits
pub one_shifted : (w p : ℕ) → p < w → 1 * 2 ^ p % 2 ^ w ≡ 2 ^ p
one_shifted w p h = mod-eq_of_lt (omega (arith, pow-lt h)) ∙ omega arith
