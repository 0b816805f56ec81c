-- Laws of m / 10^s in decimal, cut at its point: its value and its form.
use Rattle.std.proofs.Common.{◌≡◌, ℕ, zero, suc, ◌+◌, ◌-◌, ◌/◌, ◌%◌, ◌^◌, ◌<◌, ◌≤◌, true, ◌⊎◌, List, [], ◌∷◌, ◌++◌, length, get_or, sym, refl, ◌∙◌, ⊎_elim, append-nil, lt_of_le_of_lt, mod-eq_of_lt, div-lt_iff_lt-mul, pow-suc, div-add-mod', le-div_iff_mul-le, div-le_self, div-one, arith, length-append}
use mathlib.Core.Bool.{false≢true}
use Rattle.std.proofs.lemmas.Bool.{cases_lt}
use Rattle.amount.specs.Numbers.{limit}
use Rattle.amount.specs.Decimal.{all_digits, decimal}
use Rattle.amount.specs.Canonical.{last_digits, width_up_to, width_of, whole_text, decimal_text}
use Rattle.amount.specs.Texts.{pointed, before_point, behind_point, digits_in, places_in, Canonical}
use Rattle.amount.proofs.Scaling.{ten_pos}
use Rattle.amount.proofs.Widths.{small, width_stop, width_bounds, width_lower, width_upper}
use Rattle.amount.proofs.Texts.{digits_are, digits_append, number_parts, number_whole, last_digit, before_point_lem, behind_point_lem, unpointed}
use Rattle.amount.proofs.Assembling.{length_digits, text_fits}

-- the whole part stands before the point, and s digits behind it
pub record Cut (m s : ℕ) (t : List ℕ) : Type 0 where
  pub before : before_point t ≡ whole_text (m / 10 ^ s)
  pub behind : behind_point t ≡ last_digits s m
  pub point : pointed t ≡ true → 0 < s
  pub first : get_or t 0 0 ≡ get_or (whole_text (m / 10 ^ s)) 0 0
  pub least : width_of (m / 10 ^ s) ≤ length t
  pub most : length t ≤ width_of (m / 10 ^ s) + 1 + s

pub whole_digits : (n : ℕ) → all_digits (whole_text n) ≡ true
unfolding whole_text
whole_digits n = digits_are (width_of n) n

pub whole_length : (n : ℕ) → length (whole_text n) ≡ width_of n
unfolding whole_text
whole_length n = length_digits (width_of n) n

-- the first digit, whatever follows
first_digit : (k n : ℕ) (rest : List ℕ) → 0 < k → get_or (last_digits k n ++ rest) 0 0 ≡ 48 + n / 10 ^ (k - 1) % 10
unfolding last_digits
first_digit zero n rest h = omega arith
first_digit (suc k) n rest h = let e : suc k - 1 ≡ k = omega arith in rw e

whole_first : (n : ℕ) (rest : List ℕ) → get_or (whole_text n ++ rest) 0 0 ≡ 48 + n / 10 ^ (width_of n - 1) % 10
unfolding whole_text width_of
whole_first n rest = first_digit (width_up_to 38 n) n rest (width_bounds 38 n).0

pub width_some : (n : ℕ) → 1 ≤ width_of n
unfolding width_of
width_some n = (width_bounds 38 n).0

trailing : (s m : ℕ) → (s ≡ 0) ⊎ (m % 10 ≡ 0 → ⊥) → get_or (last_digits s m) (length (last_digits s m) - 1) 0 ≡ 48 → ⊥
unfolding last_digits
trailing zero m z e = omega arith
trailing (suc s) m z e =
    let n : length (last_digits (suc s) m) - 1 ≡ s = omega (arith, length_digits (suc s) m) in
    let d : 48 + m % 10 ≡ 48 = sym (last_digit s m) ∙ rw n at e in
    ⊎_elim (λ y. omega arith) (λ y. y (omega (arith, d))) z

pub cut : (m s : ℕ) → Cut m s (decimal_text m s)
unfolding decimal_text last_digits
cut m zero =
    let e : m / 10 ^ 0 ≡ m = div-one m in
    let u = unpointed (whole_text m) (whole_digits m) in
    record {
      before = rw e u.before;
      behind = u.behind;
      point = λ h. absurd (false≢true (sym u.point ∙ h));
      first = rw e;
      least = rw e (omega (arith, whole_length m));
      most = rw e (omega (arith, whole_length m));
    }
cut m (suc s) =
    let q : ℕ = m / 10 ^ suc s in
    let f : List ℕ = last_digits (suc s) m in
    record {
      before = before_point_lem f (whole_text q) (whole_digits q);
      behind = behind_point_lem f (whole_text q) (whole_digits q);
      point = λ h. omega arith;
      first = whole_first q (46 ∷ f) ∙ sym (rw (append-nil (whole_text q)) at (whole_first q []));
      least = omega (arith, whole_length q, length-append (whole_text q) (46 ∷ f));
      most = omega (arith, whole_length q, length-append (whole_text q) (46 ∷ f), length_digits (suc s) m);
    }

-- a number below 2^128 is the one that its digits say
pub whole_number : (n : ℕ) → n < limit → decimal (whole_text n) ≡ n
unfolding whole_text width_of
whole_number n f = number_whole _ n (width_upper 38 n (small n f))

-- one of two digits or more starts with another digit than 0
first_not_zero : (n w : ℕ) → 10 ^ w ≤ n → n < 10 ^ suc w → n / 10 ^ w % 10 ≡ 0 → ⊥
first_not_zero n w l u e =
    let a : 1 ≤ n / 10 ^ w = (le-div_iff_mul-le (ten_pos w)).1 (omega arith) in
    let b : n / 10 ^ w < 10 = (div-lt_iff_lt-mul (ten_pos w)).1 (omega (arith, pow-suc 10 w)) in
    omega (arith, a, b, mod-eq_of_lt b)

whole_starts : (n : ℕ) → n < limit → get_or (whole_text n) 0 0 ≡ 48 → width_of n ≡ 1
unfolding width_of
whole_starts n f e =
    let w : ℕ = width_up_to 38 n in
    let s : suc (w - 1) ≡ w = omega (arith, width_bounds 38 n) in
    let d : 48 + n / 10 ^ (w - 1) % 10 ≡ 48 = sym (whole_first n []) ∙ rw (append-nil (whole_text n)) e in
    ⊎_elim (λ l. width_stop 38 n l)
    (λ l. absurd (first_not_zero n (w - 1) (width_lower 38 n (omega arith)) (rw s (width_upper 38 n (small n f))) (omega (arith, d))))
    (cases_lt n 10)

module _ {m s : ℕ} {t : List ℕ} (c : Cut m s t) (f : m < limit) where
  part_fits : m / 10 ^ s < limit
  part_fits = lt_of_le_of_lt (div-le_self m (10 ^ s)) f

  pub cut_digits : digits_in t ≡ m
  unfolding digits_in
  cut_digits = rw (c.before, c.behind, number_parts (whole_text (m / 10 ^ s)) s m, whole_number (m / 10 ^ s) part_fits) (div-add-mod' m (10 ^ s))

  pub canonical : s ≤ 255 → (s ≡ 0) ⊎ (m % 10 ≡ 0 → ⊥) → Canonical t
  canonical g z =
      let q : ℕ = m / 10 ^ s in
      record {
        digits = rw (c.before, c.behind) (digits_append (whole_text q) (last_digits s m) (whole_digits q) (digits_are s m));
        whole = rw c.before (omega (arith, whole_length q, width_some q));
        no_leading_zero = λ e. rw c.before (whole_length q ∙ whole_starts q part_fits (sym c.first ∙ e));
        no_bare_point = λ h. rw c.behind (omega (arith, c.point h, length_digits s m));
        no_trailing_zero = rw c.behind (trailing s m z);
        some = omega (arith, c.least, width_some q);
        few = omega (arith, c.most, text_fits m s q f g refl);
      }

pub cut_places : {m s : ℕ} {t : List ℕ} → Cut m s t → places_in t ≡ s
unfolding places_in
cut_places {m} {s} c = rw c.behind (length_digits s m)
