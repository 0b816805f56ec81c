-- The theorems on amounts that docs/PROOFS.md names. An amount is one of document 01: its mantissa is below 2^128.
use Rattle.std.proofs.Common.{◌≡◌, ℕ, suc, ◌+◌, ◌-◌, ◌*◌, ◌%◌, ◌^◌, ◌<◌, ◌≤◌, true, ◌&&◌, Result, Ok, Err, ltb, leb, ◌⊎◌, sym, refl, ap, ◌∙◌, ⊎_elim, mul_assoc, mul_comm, add-mul, le_antisymm, pow-suc, sub-add_cancel, mul_right_comm, arith, pow-add, leb-true, lt-ltb, le-leb, mul-le-mul_right, le_of_mul-le-mul_right}
use native.Mathlib.Nat.{eq_of_mul-eq-mul_right, mul-mod_left, le-max_left, le-max_right}
use Rattle.std.proofs.lemmas.Bool.{cases_lt, and_parts}
use Rattle.amount.specs.Numbers.{val, limit, halves}
use Rattle.amount.specs.Canonical.{strip, lowest, whole_text, decimal_text, canonical_text}
use Rattle.amount.specs.Texts.{digits_in, places_in, Same, SameValue, InRange, Canonical}
use Rattle.amount.specs.Amounts.{read_of, compare_of, common_scale, mantissa_at, amount_if, sum_of, difference_of, given_of}
use Rattle.amount.specs.declared.Amount.{Amount}
use Rattle.amount.specs.declared.AmountError.{AmountError}
use Rattle.amount.specs.declared.AmountError.TheVariants.{NotWhole, Overflow, Underflow}
use Rattle.std.specs.declared.cmp.Ordering.{Ordering}
use Rattle.std.specs.declared.cmp.Ordering.TheVariants.{Less, Equal, Greater}
use Rattle.amount.proofs.Scaling.{ten_pos, ten_join}
use Rattle.amount.proofs.Cutting.{cut, cut_digits, cut_places, canonical, whole_number, whole_length, whole_digits, width_some}
use Rattle.amount.proofs.Assembling.{width_few}
use Rattle.amount.proofs.Reading.{read_given, if_is}
use Rattle.amount.proofs.Halves.{val_halves, OrderFact, order_fact, order_is}
use Rattle.amount.proofs.Stripping.{stripped_lowest}

-- The number of an amount called alone is 0 exactly where one is given, and then that is the amount.
pub zero_is_given : (r : Result Amount AmountError) → (given_of r).number ≡ 0 → r ≡ Ok (given_of r).amount
zero_is_given (Ok a) h = refl
zero_is_given (Err NotWhole) h = absurd (omega arith)
zero_is_given (Err Overflow) h = absurd (omega arith)
zero_is_given (Err Underflow) h = absurd (omega arith)

pub given_is_zero : (a : Amount) → (given_of (Ok a)).number ≡ 0
given_is_zero a = refl

-- The order of amounts is that of their exact values, cross-multiplied, at every pair of scales.
pub order_is_exact : (a b : Amount) → OrderFact (compare_of a b) (val a.mantissa * 10 ^ b.scale) (val b.mantissa * 10 ^ a.scale)
unfolding compare_of
order_is_exact a b = order_fact _ _

-- Values that are the same as a third are the same.
same_over : (m s n t k u : ℕ) → Same m s n t → Same n t k u → Same m s k u
same_over m s n t k u p q =
    eq_of_mul-eq-mul_right (10 ^ t) (ten_pos t) (m * 10 ^ u) (k * 10 ^ s)
    (rw (mul_right_comm m (10 ^ u) (10 ^ t), p, mul_right_comm n (10 ^ s) (10 ^ u), q, mul_right_comm k (10 ^ t) (10 ^ s)))

-- Two values that are the same, with no zero to take away, are the same mantissa at the same scale.
ten_split : (x j p : ℕ) → x * 10 ^ (suc j + p) ≡ x * 10 ^ j * 10 * 10 ^ p
ten_split x j p = rw (pow-add 10 (suc j) p, pow-suc 10 j, mul_assoc x (10 ^ j) 10, mul_assoc x (10 ^ j * 10) (10 ^ p))

finer_ends_in_zero : (x p y q : ℕ) → Same x p y q → p < q → y % 10 ≡ 0
finer_ends_in_zero x p y q e l =
    let d : q ≡ suc (q - p - 1) + p = omega arith in
    let f : y ≡ x * 10 ^ (q - p - 1) * 10 = eq_of_mul-eq-mul_right (10 ^ p) (ten_pos p) y _ (sym e ∙ ap (λ (k : ℕ). x * 10 ^ k) d ∙ ten_split x (q - p - 1) p) in
    rw f (mul-mod_left (x * 10 ^ (q - p - 1)) 10)

no_finer : (x p y q : ℕ) → Same x p y q → (q ≡ 0) ⊎ (y % 10 ≡ 0 → ⊥) → q ≤ p
no_finer x p y q e z =
    ⊎_elim (λ l. ⊎_elim (λ n. omega arith) (λ n. absurd (n (finer_ends_in_zero x p y q e l))) z) (λ l. l) (cases_lt p q)

lowest_alike : (a b : Amount) → SameValue a b → (a.scale ≡ 0) ⊎ (val a.mantissa % 10 ≡ 0 → ⊥) → (b.scale ≡ 0) ⊎ (val b.mantissa % 10 ≡ 0 → ⊥) → decimal_text (val a.mantissa) a.scale ≡ decimal_text (val b.mantissa) b.scale
lowest_alike a b e y z =
    let p : a.scale ≡ b.scale = le_antisymm (no_finer _ _ _ _ (sym e) y) (no_finer _ _ _ _ e z) in
    let q : val a.mantissa ≡ val b.mantissa = eq_of_mul-eq-mul_right _ (ten_pos a.scale) _ _ (ap (λ (k : ℕ). val a.mantissa * 10 ^ k) p ∙ e) in
    rw (p, q)

-- Equal values print alike, at every pair of scales.
pub equal_values_print_alike : (a b : Amount) → SameValue a b → canonical_text a ≡ canonical_text b
unfolding canonical_text
equal_values_print_alike a b e =
    let k = stripped_lowest a.scale (val a.mantissa) in
    let l = stripped_lowest b.scale (val b.mantissa) in
    lowest_alike _ _ (same_over _ _ _ _ _ _ k.same (same_over _ _ _ _ _ _ e (sym l.same))) k.lowest l.lowest

-- The text's decimal value is the amount's, at every scale: its digits over ten to the number of digits behind the point.
pub text_has_the_value : (a : Amount) → InRange a → Same (digits_in (canonical_text a)) (places_in (canonical_text a)) (val a.mantissa) a.scale
unfolding canonical_text
text_has_the_value a r =
    let k = stripped_lowest a.scale (val a.mantissa) in
    let c = cut (val (lowest a).mantissa) (lowest a).scale in
    rw (cut_digits c (omega (arith, k.small, r.mantissa)), cut_places c) k.same

-- Equal texts have equal values.
pub equal_texts_have_equal_values : (a b : Amount) → InRange a → InRange b → canonical_text a ≡ canonical_text b → SameValue a b
equal_texts_have_equal_values a b r q e =
    same_over _ _ _ _ _ _ (sym (text_has_the_value a r)) (rw (← e) at (text_has_the_value b q))

-- The text is canonical: no trailing zero after the point, no bare point, `0` before a leading point, at most 257 bytes.
pub text_is_canonical : (a : Amount) → InRange a → Canonical (canonical_text a)
unfolding canonical_text
text_is_canonical a r =
    let k = stripped_lowest a.scale (val a.mantissa) in
    canonical (cut _ _) (omega (arith, k.small, r.mantissa)) (omega (arith, k.shorter, r.scale)) k.lowest

-- Reading the text of a whole amount gives that amount.
pub read_back : (m : ℕ) → m < limit → read_of (canonical_text (record { mantissa = halves m; scale = 0 })) ≡ Ok (record { mantissa = halves m; scale = 0 })
unfolding canonical_text strip decimal_text
read_back m f =
    let d = whole_number m f in
    let l = whole_length m in
    rw (val_halves m, val_halves m)
    (sym (read_given (whole_text m) (halves m) (omega (arith, l, width_some m)) (omega (arith, l, width_few m)) (whole_digits m) (rw d f) (rw d)))

-- The order agrees with addition: a ≤ a + b where the sum is given.
no_less : (m n s k : ℕ) → s ≤ k → (m * 10 ^ (k - s) + n) * 10 ^ s < m * 10 ^ k → ⊥
no_less m n s k h l = omega (arith, ten_join m s k h, add-mul (m * 10 ^ (k - s)) n (10 ^ s))

pub sum_no_less : (a b c : Amount) → sum_of a b ≡ Ok c → compare_of a c ≡ Greater → ⊥
unfolding sum_of mantissa_at compare_of
sum_no_less a b c e g =
    let k : ℕ = common_scale a b in
    let f = if_is Overflow true (mantissa_at a k + mantissa_at b k) k c (sym e) in
    no_less (val a.mantissa) (mantissa_at b k) a.scale k (le-max_left a.scale b.scale)
    (order_is _ _ (sym (rw (f.2, val_halves (mantissa_at a k + mantissa_at b k)) at g)))

-- A sum or a difference that is given is exact, cross-multiplied, at every pair of scales: c is a + b, and c + b is a.
cross : (p x y m k : ℕ) → p * x ≡ m * k → p * (x * y) ≡ m * y * k
cross p x y m k e = sym (mul_assoc p x y) ∙ ap (λ (z : ℕ). z * y) e ∙ mul_right_comm m k y

module _ (a b : Amount) where
  abbrev larger : ℕ
  larger = common_scale a b

  abbrev scales : ℕ
  scales = 10 ^ a.scale * 10 ^ b.scale

  first_part : mantissa_at a larger * scales ≡ val a.mantissa * 10 ^ b.scale * 10 ^ larger
  unfolding mantissa_at
  first_part =
      cross (mantissa_at a larger) (10 ^ a.scale) (10 ^ b.scale) (val a.mantissa) (10 ^ larger) (ten_join (val a.mantissa) a.scale larger (le-max_left a.scale b.scale))

  second_part : mantissa_at b larger * scales ≡ val b.mantissa * 10 ^ a.scale * 10 ^ larger
  unfolding mantissa_at
  second_part =
      ap (λ (z : ℕ). mantissa_at b larger * z) (mul_comm (10 ^ a.scale) (10 ^ b.scale))
      ∙ cross (mantissa_at b larger) (10 ^ b.scale) (10 ^ a.scale) (val b.mantissa) (10 ^ larger) (ten_join (val b.mantissa) b.scale larger (le-max_right a.scale b.scale))

  module _ (c : Amount) where
    pub sum_is_exact : sum_of a b ≡ Ok c
        → val c.mantissa * (10 ^ a.scale * 10 ^ b.scale) ≡ val a.mantissa * 10 ^ b.scale * 10 ^ c.scale + val b.mantissa * 10 ^ a.scale * 10 ^ c.scale
    unfolding sum_of
    sum_is_exact e =
        let f = if_is Overflow true (mantissa_at a larger + mantissa_at b larger) larger c (sym e) in
        rw (f.2, val_halves (mantissa_at a larger + mantissa_at b larger)) (omega (arith, add-mul (mantissa_at a larger) (mantissa_at b larger) scales, first_part, second_part))

    pub difference_is_exact : difference_of a b ≡ Ok c
        → val c.mantissa * (10 ^ a.scale * 10 ^ b.scale) + val b.mantissa * 10 ^ a.scale * 10 ^ c.scale ≡ val a.mantissa * 10 ^ b.scale * 10 ^ c.scale
    unfolding difference_of
    difference_is_exact e =
        let p : ℕ = mantissa_at a larger in
        let q : ℕ = mantissa_at b larger in
        let f = if_is Underflow (ltb p limit && leb q p) (p - q) larger c (sym e) in
        let l : q ≤ p = leb-true q p (and_parts (ltb p limit) (leb q p) f.0).1 in
        rw (f.2, val_halves (p - q)) (omega (arith, add-mul (p - q) q scales, ap (λ (z : ℕ). z * scales) (sub-add_cancel l), first_part, second_part))

-- A difference is given where rescaling stays within 128 bits and nothing more is taken than there is.
not_less : (o : Ordering) (x y : ℕ) → OrderFact o x y → (o ≡ Less → ⊥) → y ≤ x
not_less Less x y f z = absurd (z refl)
not_less Equal x y f z = omega arith
not_less Greater x y f z = omega arith

module _ (a b : Amount) where
  pub difference_is_given : mantissa_at a (larger a b) < limit → (compare_of a b ≡ Less → ⊥) → (c : Amount) × (difference_of a b ≡ Ok c)
  unfolding difference_of amount_if
  difference_is_given f z =
      let p : ℕ = mantissa_at a (larger a b) in
      let q : ℕ = mantissa_at b (larger a b) in
      let l : q * scales a b ≤ p * scales a b =
      rw (first_part a b, second_part a b) (mul-le-mul_right (10 ^ larger a b) (not_less _ _ _ (order_is_exact a b) z)) in
      let k : q ≤ p = le_of_mul-le-mul_right l (rw (← pow-add 10 a.scale b.scale) (ten_pos (a.scale + b.scale))) in
      (record { mantissa = halves (p - q); scale = larger a b }, rw (lt-ltb p limit f, le-leb q p k, lt-ltb (p - q) limit (omega arith)))
