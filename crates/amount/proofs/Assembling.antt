-- Laws of the whole canonical text: its length, and the bytes that it is put together from.
use Rattle.std.proofs.Common.{◌≡◌, ℕ, zero, suc, ◌+◌, ◌-◌, ◌*◌, ◌/◌, ◌^◌, ◌<◌, ◌≤◌, List, ◌∷◌, ◌++◌, length, take, replicate, sym, refl, ap, ◌∙◌, ⊎_elim, append_assoc, lt_of_le_of_lt, mul-le-mul_right, eq-zero-or-pos, not-le_of_lt, div-mul-le_self, arith, lit≤, length-append, pow-add}
use Prim.{absurd}
use native.Mathlib.Nat.{pow-le-pow_right, sub_self}
use lib.ListN.{replicate-append-replicate}
use Rattle.std.proofs.Math.Seq.{take-append_seam}
use Rattle.std.proofs.lemmas.Bool.{cases_lt}
use Rattle.amount.specs.Numbers.{val, limit}
use Rattle.amount.specs.Canonical.{strip, last_digits, width_up_to, width_of, whole_text, decimal_text, canonical_text, zeros, as_text}
use Rattle.amount.specs.declared.Amount.{Amount}
use Rattle.amount.proofs.Widths.{width_stop, width_bounds, width_lower}

pub zeros_split : (a b : ℕ) → a ≤ b → zeros b ≡ zeros a ++ zeros (b - a)
unfolding zeros
zeros_split a b h =
    let e : b ≡ a + (b - a) = omega arith in
    ap (λ (k : ℕ). replicate k 0) e ∙ sym (replicate-append-replicate a (b - a) 0)

zeros_none : (a : ℕ) (l : List ℕ) → zeros (a - a) ++ l ≡ l
unfolding zeros
zeros_none a l = rw (sub_self a)

pub length_digits : (k n : ℕ) → length (last_digits k n) ≡ k
unfolding last_digits
length_digits zero n = refl
length_digits (suc k) n = ap suc (length_digits k n)

-- the text of an amount has at most 257 bytes
ten_small : (k : ℕ) → 10 ^ k < limit → k ≤ 38
unfolding limit
ten_small k h =
    ⊎_elim (λ l. omega arith)
    (λ l.
    let p : 10 ^ 39 < 2 ^ 128 = lt_of_le_of_lt (pow-le-pow_right {n = 10} (omega arith) l) h in
    absurd (not-le_of_lt p (lit≤ tt)))
    (cases_lt k 39)

pub text_fits : (m s q : ℕ) → m < limit → s ≤ 255 → q ≡ m / 10 ^ s → width_of q + 1 + s ≤ 257
unfolding width_of
text_fits m s q f g e =
    ⊎_elim
    (λ z. omega (arith, width_stop 38 q (omega arith)))
    (λ p.
    let a : 10 ^ (width_up_to 38 q - 1) * 10 ^ s ≤ q * 10 ^ s = mul-le-mul_right (10 ^ s) (width_lower 38 q p) in
    let b : q * 10 ^ s ≤ m = rw e (div-mul-le_self m (10 ^ s)) in
    let k = ten_small (width_up_to 38 q - 1 + s) (rw (pow-add 10 (width_up_to 38 q - 1) s) (omega arith)) in
    omega (arith, width_bounds 38 q))
    (eq-zero-or-pos q)

pub width_few : (q : ℕ) → width_of q ≤ 39
unfolding width_of
width_few q = (width_bounds 38 q).1

text_of : (t b : List ℕ) (len : ℕ) → length t ≡ len → b ≡ t ++ zeros (257 - len) → record { bytes = b; len = len } ≡ as_text t
unfolding as_text
text_of t b len e f = rw (f, e)

-- the bytes that the array's text is read back from
pub text_bytes : (t : List ℕ) → take (as_text t).len (as_text t).bytes ≡ t
unfolding as_text
text_bytes t = take-append_seam t (zeros (257 - length t))

decimal_whole : (m s w : ℕ) → s ≡ 0 → w ≡ width_of m → decimal_text m s ≡ last_digits w m
unfolding decimal_text whole_text
decimal_whole m s w z g = rw (z, g)

decimal_point : (m s q w : ℕ) → (s ≡ 0 → ⊥) → q ≡ m / 10 ^ s → w ≡ width_of q → decimal_text m s ≡ last_digits w q ++ (46 ∷ last_digits s m)
unfolding decimal_text whole_text
decimal_point m zero q w z f g = absurd (z refl)
decimal_point m (suc s) q w z f g = rw (g, f)

-- what stands before the fraction, once it is written
pub before_fraction : {b : List ℕ} (w s : ℕ) (l : List ℕ) → b ≡ zeros (w + 1 + s - s) ++ l → b ≡ zeros (w + 1) ++ l
before_fraction w s l h =
    let e : w + 1 + s - s ≡ w + 1 = omega arith in
    h ∙ rw e

module _ (a whole : Amount) (e : whole ≡ strip a.scale (val a.mantissa)) where
  text_is : decimal_text (val whole.mantissa) whole.scale ≡ canonical_text a
  unfolding canonical_text
  text_is = rw e

  pub whole_only : (b : List ℕ) (w : ℕ) → whole.scale ≡ 0 → w ≡ width_of (val whole.mantissa) → b ≡ zeros (w - w) ++ (last_digits w (val whole.mantissa) ++ zeros (257 - w)) → record { bytes = b; len = w } ≡ as_text (canonical_text a)
  whole_only b w z g h =
      let m = val whole.mantissa in
      let t : canonical_text a ≡ last_digits w m = sym text_is ∙ decimal_whole m _ w z g in
      rw t (text_of (last_digits w m) b w (length_digits w m) (h ∙ zeros_none w _))

  module _ (q w : ℕ) (f : q ≡ val whole.mantissa / 10 ^ whole.scale) (g : w ≡ width_of q) where
    pub with_point : (b : List ℕ) → (whole.scale ≡ 0 → ⊥) → b ≡ zeros (w - w) ++ (last_digits w q ++ (46 ∷ (last_digits whole.scale (val whole.mantissa) ++ zeros (257 - (w + 1 + whole.scale))))) → record { bytes = b; len = w + 1 + whole.scale } ≡ as_text (canonical_text a)
    with_point b z h =
        let s = whole.scale in
        let d = last_digits s (val whole.mantissa) in
        let t : canonical_text a ≡ last_digits w q ++ (46 ∷ d) = sym text_is ∙ decimal_point _ _ q w z f g in
        let n : length (last_digits w q ++ (46 ∷ d)) ≡ w + 1 + s = length-append (last_digits w q) (46 ∷ d) ∙ rw (length_digits w q, length_digits s (val whole.mantissa)) (omega arith) in
        rw t (text_of _ b (w + 1 + s) n (h ∙ zeros_none w _ ∙ sym (append_assoc (last_digits w q) (46 ∷ d) _)))
