-- Laws of the definitions of `specs/Numbers.antt`: which answer a fact on halves leads to.
use Rattle.std.proofs.Common.{◌≡◌, ℕ, zero, suc, ◌+◌, ◌-◌, ◌*◌, ◌/◌, ◌%◌, ◌^◌, ◌<◌, ◌≤◌, Bool, true, false, cond, Some, None, ltb, leb, sym, refl, ap, ◌∙◌, le_trans, lt_trans, le-add_right, mul-le-mul_right, mod-lt, mod-eq_of_lt, mul_assoc, add-mul, div-add-mod', mul_right_comm, arith, lit<, ltb-false, ltb-true, le-ltb, lt-ltb, le-leb, leb-false, leb-true}
use native.Mathlib.Nat.{add-mul-mod_self_right, add-mod_right}
use lib.Arith.{digits_lt, digits_div, digits_mod}
use borrow.Author.Tests.{lt-leb}
use Rattle.amount.specs.Numbers.{val, limit, halves, order_of}
use Rattle.amount.specs.Helpers.{checked, checked_less, division_of}
pub use Rattle.amount.specs.Order.{order_less, order_equal, order_greater, OrderFact, order_fact}
use Rattle.amount.specs.declared.uint128.Uint128.{Uint128}
use Rattle.amount.specs.declared.uint128.Division.{Division}
use Rattle.std.specs.Int.{from_bool}
use Rattle.std.specs.Ordering.{nat_cmp, ordering_then}
use Rattle.std.specs.declared.cmp.Ordering.{Ordering}
use Rattle.std.specs.declared.cmp.Ordering.TheVariants.{Less, Equal, Greater}
use Rattle.std.proofs.lemmas.Cmp.{ranked}
use Rattle.std.proofs.lemmas.Option.{cond_some}

-- the order of two numbers by their upper halves, then by their lower ones
pub val_lt_hi : (x y : Uint128) → x.lo < 2 ^ 64 → x.hi < y.hi → val x < val y
unfolding val
val_lt_hi x y l h = omega arith

pub val_lt_lo : (x y : Uint128) → x.hi ≡ y.hi → x.lo < y.lo → val x < val y
unfolding val
val_lt_lo x y h l = omega arith

pub val_eq : (x y : Uint128) → x.hi ≡ y.hi → x.lo ≡ y.lo → val x ≡ val y
unfolding val
val_eq x y h l = omega arith

by_halves : (x y : Uint128) → x.lo < 2 ^ 64 → y.lo < 2 ^ 64 → (o p : Ordering) → OrderFact o x.hi y.hi → OrderFact p x.lo y.lo → ordering_then o p ≡ order_of (val x) (val y)
by_halves x y g h Less p e f = order_less _ _ (val_lt_hi x y g e)
by_halves x y g h Equal Less e f = order_less _ _ (val_lt_lo x y e f)
by_halves x y g h Equal Equal e f = order_equal _ _ (val_eq x y e f)
by_halves x y g h Equal Greater e f = order_greater _ _ (val_lt_lo y x (sym e) f)
by_halves x y g h Greater p e f = order_greater _ _ (val_lt_hi y x h e)

-- what the derived `cmp` answers is the order of the numbers
pub halves_order : (x y : Uint128) → x.lo < 2 ^ 64 → y.lo < 2 ^ 64 → ordering_then (nat_cmp x.hi y.hi) (nat_cmp x.lo y.lo) ≡ order_of (val x) (val y)
halves_order x y g h =
    by_halves x y g h (nat_cmp x.hi y.hi) (nat_cmp x.lo y.lo) (ranked x.hi y.hi (nat_cmp x.hi y.hi) refl) (ranked x.lo y.lo (nat_cmp x.lo y.lo) refl)

-- the halves of a number are those that it is made of
pub halves_of : (x : Uint128) (n : ℕ) → x.lo < 2 ^ 64 → val x ≡ n → x ≡ halves n
unfolding halves val
halves_of x n h e = rw (← e, digits_div x.hi h, digits_mod x.hi h)

pub checked_number : (x : Uint128) (n : ℕ) → x.hi < 2 ^ 64 → x.lo < 2 ^ 64 → val x ≡ n → Some x ≡ checked n
unfolding checked limit val
checked_number x n g h e =
    simp (lt-ltb n (2 ^ 128) (rw e at (digits_lt {m = 2 ^ 64} {c = 2 ^ 64} g h))) (ap Some (halves_of x n h e))

pub checked_outside : (h l n : ℕ) → 2 ^ 64 ≤ h → h * 2 ^ 64 + l ≡ n → None ≡ checked n
unfolding checked limit
checked_outside h l n f e =
    simp (le-ltb n (2 ^ 128) (rw e at (le_trans (mul-le-mul_right (2 ^ 64) f) (le-add_right (h * 2 ^ 64) l))))

pub difference_number : (x : Uint128) (a b : ℕ) → x.lo < 2 ^ 64 → val x + b ≡ a → Some x ≡ checked_less a b
unfolding checked_less
difference_number x a b h e =
    simp (le-leb b a (omega arith)) (ap Some (halves_of x (a - b) h (omega arith)))

pub difference_outside : (a b : ℕ) → a < b → None ≡ checked_less a b
unfolding checked_less
difference_outside a b f = simp (lt-leb b a f)

-- a word x times f and a more, by halves of the word
module _ (x f a : ℕ) where
  abbrev product_first : ℕ
  product_first = x % 2 ^ 32 * f + a

  abbrev product_second : ℕ
  product_second = x / 2 ^ 32 * f + product_first / 2 ^ 32

  pub product_join : product_second / 2 ^ 32 * 2 ^ 64 + (product_second % 2 ^ 32 * 2 ^ 32 + product_first % 2 ^ 32) ≡ x * f + a
  product_join =
      let p : (x / 2 ^ 32 * 2 ^ 32 + x % 2 ^ 32) * f ≡ x / 2 ^ 32 * f * 2 ^ 32 + x % 2 ^ 32 * f = add-mul (x / 2 ^ 32 * 2 ^ 32) (x % 2 ^ 32) f ∙ rw (mul_right_comm (x / 2 ^ 32) (2 ^ 32) f) in
      let q : (x / 2 ^ 32 * 2 ^ 32 + x % 2 ^ 32) * f ≡ x * f = rw (div-add-mod' x (2 ^ 32)) in
      omega (arith, p, q)

-- a number times f and d more, by halves
pub times_halves : (x : Uint128) (f d k h l : ℕ) → k * 2 ^ 64 + l ≡ x.lo * f + d → h ≡ x.hi * f + k → h * 2 ^ 64 + l ≡ val x * f + d
unfolding val
times_halves x f d k h l e g =
    let p : (x.hi * 2 ^ 64 + x.lo) * f ≡ x.hi * f * 2 ^ 64 + x.lo * f = add-mul (x.hi * 2 ^ 64) x.lo f ∙ rw (mul_right_comm x.hi (2 ^ 64) f) in
    omega (arith, p)

-- a division by halves
pub division_halves : (q x : Uint128) (m r d : ℕ) → x.hi ≡ q.hi * d + m → m * 2 ^ 64 + x.lo ≡ q.lo * d + r → val q * d + r ≡ val x
unfolding val
division_halves q x m r d e f =
    let p : (q.hi * 2 ^ 64 + q.lo) * d ≡ q.hi * d * 2 ^ 64 + q.lo * d = add-mul (q.hi * 2 ^ 64) q.lo d ∙ rw (mul_right_comm q.hi (2 ^ 64) d) in
    omega (arith, p)

pub division_is : (q : Uint128) (r n d : ℕ) → q.lo < 2 ^ 64 → r < d → val q * d + r ≡ n → record { quotient = q; rest = r } ≡ division_of n d
unfolding division_of
division_is q r n d h b e =
    rw (← e, digits_div (val q) b, digits_mod (val q) b, ← halves_of q (val q) h refl)

pub division_low : (x : Uint128) (d : ℕ) → x.hi ≡ 0 → x.lo / d < 2 ^ 64 → 0 < d → record { quotient = record { hi = 0; lo = x.lo / d }; rest = x.lo % d } ≡ division_of (val x) d
division_low x d z h p =
    division_is _ _ _ d h (mod-lt x.lo p) (division_halves _ x 0 (x.lo % d) d (omega arith) (omega (arith, div-add-mod' x.lo d)))

pub division_quotient : (n d : ℕ) → (division_of n d).quotient ≡ halves (n / d)
unfolding division_of
division_quotient n d = refl

pub division_rest : (n d : ℕ) → (division_of n d).rest ≡ n % d
unfolding division_of
division_rest n d = refl

-- zero is two halves of zero
pub val_zero : (x : Uint128) → x.hi ≡ 0 → x.lo ≡ val x
unfolding val
val_zero x h = omega arith

pub val_pos : (x : Uint128) → (x.hi ≡ 0 → ⊥) → val x ≡ 0 → ⊥
unfolding val
val_pos x h e = h (omega arith)

-- a number with an upper half has ten digits or more
pub val_wide : (x : Uint128) → 0 < x.hi → 10 ^ 9 ≤ val x
unfolding val
val_wide x h = omega arith

pub word_fits : (n : ℕ) → n < 2 ^ 64 → n < limit
unfolding limit
word_fits n h = lt_trans h (lit< tt)

-- forms that `omega` proves here, and not among a function's facts, where it meets numbers past its bound
pub no_carry : (k x y : ℕ) → k ≤ 0 → k * 2 ^ 64 + x ≡ y → x ≡ y
no_carry k x y z e = omega arith

pub carry_past : (k x : ℕ) → 0 < k → 2 ^ 64 ≤ k * 2 ^ 64 + x
carry_past k x h = omega arith

-- what an answer tells a caller
pub val_halves : (n : ℕ) → val (halves n) ≡ n
unfolding val halves
val_halves n = div-add-mod' n (2 ^ 64)

-- a condition that gives nothing
pub cond_none : {A : Type 0} (t : Bool) (x : A) → None ≡ cond t (Some x) None → t ≡ false
cond_none true x h = cc
cond_none false x h = refl

pub checked_is : (n : ℕ) (x : Uint128) → Some x ≡ checked n → (n < limit) × (x ≡ halves n)
unfolding checked
checked_is n x h = let k = cond_some (ltb n limit) (halves n) x (sym h) in (ltb-true n limit k.0, sym k.1)

pub checked_none : (n : ℕ) → None ≡ checked n → limit ≤ n
unfolding checked
checked_none n h = ltb-false n limit (cond_none (ltb n limit) (halves n) h)

pub difference_is : (a b : ℕ) (x : Uint128) → Some x ≡ checked_less a b → (b ≤ a) × (x ≡ halves (a - b))
unfolding checked_less
difference_is a b x h = let k = cond_some (leb b a) (halves (a - b)) x (sym h) in (leb-true b a k.0, sym k.1)

pub difference_none : (a b : ℕ) → None ≡ checked_less a b → a < b
unfolding checked_less
difference_none a b h = leb-false b a (cond_none (leb b a) (halves (a - b)) h)

-- a number that its halves determine
pub record Whole (x : Uint128) : Type 0 where
  pub fits : val x < limit
  pub whole : x ≡ halves (val x)

pub whole_of : (x : Uint128) → x.hi < 2 ^ 64 → x.lo < 2 ^ 64 → Whole x
unfolding val limit
whole_of x g h = record { fits = digits_lt {m = 2 ^ 64} {c = 2 ^ 64} g h; whole = halves_of x (val x) h refl }

pub val_of : {x : Uint128} {n : ℕ} → x ≡ halves n → val x ≡ n
val_of {x} {n} e = ap val e ∙ val_halves n

pub whole_halves : {x : Uint128} {n : ℕ} → n < limit → x ≡ halves n → Whole x
whole_halves {x} {n} h e = record { fits = rw (val_of e) h; whole = rw (val_of e) e }

pub checked_fits : {x : Uint128} {n : ℕ} → n < limit → x ≡ halves n → Some x ≡ checked n
unfolding checked
checked_fits {x} {n} h e = simp (lt-ltb n limit h) (ap Some e)

pub checked_large : {n : ℕ} → limit ≤ n → None ≡ checked n
unfolding checked
checked_large {n} h = simp (le-ltb n limit h)

pub order_is : {o : Ordering} (a b : ℕ) → o ≡ order_of a b → OrderFact o a b
order_is a b e = rw e (order_fact a b)

pub division_val : {x : Division Uint128} (n d : ℕ) → x ≡ division_of n d → val x.quotient ≡ n / d
division_val n d e = rw (e, division_quotient n d) (val_halves (n / d))

pub division_left : {x : Division Uint128} (n d : ℕ) → x ≡ division_of n d → x.rest ≡ n % d
division_left n d e = rw (e, division_rest n d)

-- a word divided
pub word_quotient : (x : Uint128) (d : ℕ) → x.hi ≡ 0 → val (record { hi = 0; lo = x.lo / d }) ≡ val x / d
word_quotient x d z = sym (val_zero (record { hi = 0; lo = x.lo / d }) refl) ∙ ap (λ (n : ℕ). n / d) (val_zero x z)

pub word_rest : (x : Uint128) (d : ℕ) → x.hi ≡ 0 → x.lo % d ≡ val x % d
word_rest x d z = ap (λ (n : ℕ). n % d) (val_zero x z)

-- ---- sums and differences: one carry passes the lower half, and one the upper half

carried : (x x' y y' z z' k t : ℕ) → z + t ≡ x + y + k → z' + k * 2 ^ 64 ≡ x' + y' → z * 2 ^ 64 + z' + t * 2 ^ 64 ≡ x * 2 ^ 64 + x' + (y * 2 ^ 64 + y')
carried x x' y y' z z' k t e f = omega arith

sum_carried : (x y z : Uint128) (k q : ℕ) → z.hi + q * 2 ^ 64 ≡ x.hi + y.hi + k → z.lo + k * 2 ^ 64 ≡ x.lo + y.lo → val z + q * limit ≡ val x + val y
unfolding val limit
sum_carried x y z k q e f =
    ap (λ (n : ℕ). z.hi * 2 ^ 64 + z.lo + n) (sym (mul_assoc q (2 ^ 64) (2 ^ 64))) ∙ carried x.hi x.lo y.hi y.lo z.hi z.lo k (q * 2 ^ 64) e f

-- m less n, as it wraps, where q is what passes the sum of n and what is left
less_wraps : (m n l r q : ℕ) → q < 2 → n < l → r < l → m + q * l ≡ r + n → r ≡ (m + (l - n)) % l
less_wraps m n l r zero b g h e =
    let d : m + (l - n) ≡ r + l = omega arith in
    sym (ap (λ (k : ℕ). k % l) d ∙ add-mod_right r l ∙ mod-eq_of_lt h)
less_wraps m n l r (suc zero) b g h e =
    let d : m + (l - n) ≡ r = omega arith in
    sym (ap (λ (k : ℕ). k % l) d ∙ mod-eq_of_lt h)
less_wraps m n l r (suc (suc q)) b g h e = absurd (omega arith)

bit : (t : Bool) → from_bool t < 2
bit true = omega arith
bit false = omega arith

-- the lower half l of x + y, with the carry k
module _ (x y : Uint128) (l : ℕ) (k : Bool) (e : l + from_bool k * 2 ^ 64 ≡ x.lo + y.lo + from_bool false) where
  sum_halves : (x.hi + y.hi + from_bool k) * 2 ^ 64 + l ≡ val x + val y
  unfolding val
  sum_halves = omega arith

  pub sum_over : 2 ^ 64 ≤ x.hi + y.hi + from_bool k → None ≡ checked (val x + val y)
  sum_over h = checked_outside _ _ _ h sum_halves

  pub sum_within : (h : ℕ) → h ≡ x.hi + y.hi + from_bool k → h < 2 ^ 64 → l < 2 ^ 64 → Some (record { hi = h; lo = l }) ≡ checked (val x + val y)
  unfolding val
  sum_within h f p q = checked_number _ _ p q (rw f sum_halves)

  -- with what passes the upper half
  pub sum_wraps : (h : ℕ) (t : Bool) → h + from_bool t * 2 ^ 64 ≡ x.hi + y.hi + from_bool k → h < 2 ^ 64 → l < 2 ^ 64 → record { hi = h; lo = l } ≡ halves ((val x + val y) % limit)
  sum_wraps h t f p q =
      let z : Uint128 = record { hi = h; lo = l } in
      let w : Whole z = whole_of z p q in
      let s : (val z + from_bool t * limit) % limit ≡ val z = add-mul-mod_self_right (val z) (from_bool t) limit ∙ mod-eq_of_lt w.fits in
      w.whole ∙ ap halves (sym s ∙ ap (λ (n : ℕ). n % limit) (sum_carried x y z (from_bool k) (from_bool t) f (omega arith)))

-- the lower half l of x - y, with the borrow k
module _ (x y : Uint128) (l : ℕ) (k : Bool) (e : l + y.lo + from_bool false ≡ x.lo + from_bool k * 2 ^ 64) where
  pub difference_below : l < 2 ^ 64 → x.hi < y.hi + from_bool k → None ≡ checked_less (val x) (val y)
  unfolding val
  difference_below q h = difference_outside _ _ (omega arith)

  pub difference_within : (h : ℕ) → h + y.hi + from_bool k ≡ x.hi → l < 2 ^ 64 → Some (record { hi = h; lo = l }) ≡ checked_less (val x) (val y)
  unfolding val
  difference_within h f q = difference_number _ _ _ q (omega arith)

  -- with what passes the upper half
  pub difference_wraps : (h : ℕ) (t : Bool) → h + y.hi + from_bool k ≡ x.hi + from_bool t * 2 ^ 64 → h < 2 ^ 64 → l < 2 ^ 64 → y.hi < 2 ^ 64 → y.lo < 2 ^ 64
      → record { hi = h; lo = l } ≡ halves ((val x + (limit - val y)) % limit)
  difference_wraps h t f p q g i =
      let z : Uint128 = record { hi = h; lo = l } in
      let w : Whole z = whole_of z p q in
      let s = sum_carried z y x (from_bool k) (from_bool t) (sym f) (omega arith) in
      w.whole ∙ ap halves (less_wraps (val x) (val y) limit (val z) (from_bool t) (bit t) (whole_of y g i).fits w.fits s)

-- what they are where nothing wraps
pub wrapped_sum : {r : Uint128} (m n : ℕ) → r ≡ halves ((m + n) % limit) → m + n < limit → r ≡ halves (m + n)
wrapped_sum m n e h = e ∙ ap halves (mod-eq_of_lt h)

pub wrapped_difference : {r : Uint128} (m n : ℕ) → r ≡ halves ((m + (limit - n)) % limit) → n ≤ m → m < limit → r ≡ halves (m - n)
wrapped_difference m n e b h = e ∙ ap halves (sym (less_wraps m n limit (m - n) 0 (omega arith) (omega arith) (omega arith) (omega arith)))
