-- Laws of scaling by powers of ten: a quotient with what is left, and the order that it shows.
use Rattle.std.proofs.Common.{◌≡◌, ℕ, zero, suc, ◌+◌, ◌-◌, ◌*◌, ◌/◌, ◌%◌, ◌^◌, ◌<◌, ◌≤◌, Bool, true, false, cond, not, ◌==◌, sym, refl, ◌∙◌, le_trans, lt_of_lt_of_le, lt_of_le_of_lt, mul-le-mul_right, mod-lt, mod-eq_of_lt, mul_assoc, mul_comm, zero-mul, add-mul, mul-lt-mul_of_pos_right, pow-suc, div-add-mod', sub-add_cancel, add-one, arith, lit<, lit≤, pow-add, ne_eqb, eqb-true}
use native.Mathlib.Nat.{div-div-eq-div-mul, pow-le-pow_right, div-eq_of_lt}
use borrow.Author.Tests.{eqb-false, not-true, not-false}
use lib.Arith.{mod-mul, lt_of_le-ne}
use Rattle.amount.specs.Numbers.{val, order_of}
pub use Rattle.amount.specs.Order.{ten_pos, order_scale, compare_reversed}
use Rattle.amount.specs.declared.uint128.Uint128.{Uint128}
use Rattle.std.specs.Ordering.{ordering_then}
use Rattle.std.specs.declared.cmp.Ordering.{Ordering}
use Rattle.std.specs.declared.cmp.Ordering.TheVariants.{Less, Equal, Greater}
use Rattle.amount.proofs.Halves.{order_less, order_equal, order_greater, order_is, OrderFact, val_zero}
use Rattle.amount.specs.Amounts.{compare_of}
use Rattle.amount.specs.Helpers.{ReducedBy}
use Rattle.amount.specs.declared.Reduced.{Reduced}
use Rattle.amount.specs.declared.Amount.{Amount}

pub ten_more : (j : ℕ) → 10 ^ (j + 1) ≡ 10 ^ j * 10
ten_more j = rw (add-one j) (pow-suc 10 j)

-- past a number that it is not
pub above : {n : ℕ} (k : ℕ) → (n ≡ k → ⊥) → k ≤ n → k + 1 ≤ n
above k z h = rw (add-one k) (lt_of_le-ne h (λ e. z (sym e)))

-- the tail of n below 10^(j+k): the k digits there, and the tail below them
tail : (n j k : ℕ) → n % 10 ^ (j + k) ≡ n / 10 ^ j % 10 ^ k * 10 ^ j + n % 10 ^ j
tail n j k =
    rw (pow-add 10 j k, mul_comm (10 ^ j) (10 ^ k)) (mod-mul n {m = 10 ^ k} {c = 10 ^ j} (ten_pos k) (ten_pos j))

-- a quotient of k places more
pub quotient_more : {q : ℕ} (n j k p : ℕ) → p ≡ j + k → q ≡ n / 10 ^ j → q / 10 ^ k ≡ n / 10 ^ p
quotient_more n j k p h e = rw (e, h, div-div-eq-div-mul n (10 ^ j) (10 ^ k), ← pow-add 10 j k)

-- a product is zero where its first factor is
zero_product : (x p : ℕ) → 0 < p → (x == 0) ≡ (x * p == 0)
zero_product zero p h = rw (zero-mul p)
zero_product (suc x) p h = ne_eqb (suc x) 0 (λ e. omega arith) ∙ sym (ne_eqb (suc x * p) 0 (λ e. let l : 1 ≤ suc x = omega arith in omega (arith, mul-le-mul_right p l)))

-- k places more, by a quotient q and what is left, x
module _ {n j : ℕ} {r : Reduced} (h : ReducedBy n j r) (k : ℕ) (q : Uint128) (x : ℕ) (e : val q ≡ val r.quotient / 10 ^ k) (f : x ≡ val r.quotient % 10 ^ k) where
  next_quotient : val q ≡ n / 10 ^ (j + k)
  next_quotient = e ∙ quotient_more n j k (j + k) refl h.quotient

  next_rest : x ≡ n / 10 ^ j % 10 ^ k
  next_rest = f ∙ rw h.quotient

  -- something was left before
  pub reduce_left : r.rest ≡ true → ReducedBy n (j + k) (record { quotient = q; rest = r.rest })
  reduce_left u =
      let z = eqb-false (n % 10 ^ j) 0 (not-true _ (sym h.rest ∙ u)) in
      let g : n % 10 ^ (j + k) ≡ 0 → ⊥ = λ w. z (omega (arith, tail n j k)) in
      record { quotient = next_quotient; rest = u ∙ rw (ne_eqb (n % 10 ^ (j + k)) 0 g) }

  -- nothing was, so x decides
  pub reduce_fresh : r.rest ≡ false → ReducedBy n (j + k) (record { quotient = q; rest = not (x == 0) })
  reduce_fresh u =
      let z = eqb-true (n % 10 ^ j) 0 (not-false _ (sym h.rest ∙ u)) in
      let g : n % 10 ^ (j + k) ≡ x * 10 ^ j = tail n j k ∙ rw (z, ← next_rest) (omega arith) in
      record { quotient = next_quotient; rest = rw (g, ← zero_product x (10 ^ j) (ten_pos j)) }

pub nine_fit : (k : ℕ) → k ≤ 9 → 10 ^ k < 2 ^ 32
nine_fit k h = lt_of_le_of_lt (pow-le-pow_right {n = 10} (omega arith) h) (lit< tt)

-- a word has no digit from the twentieth place on
module _ (x : Uint128) (k : ℕ) (z : x.hi ≡ 0) (f : x.lo < 2 ^ 64) (h : 19 < k) where
  word_below : val x < 10 ^ k
  word_below =
      let t : 2 ^ 64 ≤ 10 ^ 20 = lit≤ tt in
      let l : 20 ≤ k = omega arith in
      rw (← val_zero x z) (lt_of_lt_of_le f (le_trans t (pow-le-pow_right {n = 10} (omega arith) l)))

  pub word_none : val (record { hi = 0; lo = 0 }) ≡ val x / 10 ^ k
  word_none = sym (val_zero (record { hi = 0; lo = 0 }) refl) ∙ sym (div-eq_of_lt word_below)

  pub word_all : x.lo ≡ val x % 10 ^ k
  word_all = val_zero x z ∙ sym (mod-eq_of_lt word_below)

-- how m · 10^d stands to n, by n / 10^d and what is left
module _ {n d : ℕ} {r : Reduced} (h : ReducedBy n d r) (m : ℕ) where
  parts : val r.quotient * 10 ^ d + n % 10 ^ d ≡ n
  parts = rw h.quotient (div-add-mod' n (10 ^ d))

  beside_less : m < val r.quotient → Less ≡ order_of (m * 10 ^ d) n
  beside_less l = order_less _ _ (omega (arith, parts, mul-lt-mul_of_pos_right l (ten_pos d)))

  beside_greater : val r.quotient < m → Greater ≡ order_of (m * 10 ^ d) n
  beside_greater l =
      let k : (val r.quotient + 1) * 10 ^ d ≤ m * 10 ^ d = mul-le-mul_right (10 ^ d) (omega arith) in
      order_greater _ _
      (omega (arith, parts, k, add-mul (val r.quotient) 1 (10 ^ d), mod-lt n (ten_pos d)))

  beside_rest : m ≡ val r.quotient → r.rest ≡ true → Less ≡ order_of (m * 10 ^ d) n
  beside_rest e t =
      let z = eqb-false (n % 10 ^ d) 0 (not-true _ (sym h.rest ∙ t)) in
      order_less _ _ (rw e (omega (arith, parts, z)))

  beside_equal : m ≡ val r.quotient → r.rest ≡ false → Equal ≡ order_of (m * 10 ^ d) n
  beside_equal e t =
      let z = eqb-true (n % 10 ^ d) 0 (not-false _ (sym h.rest ∙ t)) in
      order_equal _ _ (rw e (omega (arith, parts, z)))

  beside_case : (o : Ordering) (t : Bool) → OrderFact o m (val r.quotient) → r.rest ≡ t → ordering_then o (cond t Less Equal) ≡ order_of (m * 10 ^ d) n
  beside_case Less t f e = beside_less f
  beside_case Equal true f e = beside_rest f e
  beside_case Equal false f e = beside_equal f e
  beside_case Greater t f e = beside_greater f

  pub beside : (o tie : Ordering) → o ≡ order_of m (val r.quotient) → tie ≡ cond r.rest Less Equal → ordering_then o tie ≡ order_of (m * 10 ^ d) n
  beside o tie e f = rw f (beside_case o r.rest (order_is _ _ e) refl)

-- 10^d · 10^s at the scales s ≤ t, with d what t has more
pub ten_join : (m s t : ℕ) → s ≤ t → m * 10 ^ (t - s) * 10 ^ s ≡ m * 10 ^ t
ten_join m s t h =
    rw (mul_assoc m (10 ^ (t - s)) (10 ^ s), ← pow-add 10 (t - s) s, sub-add_cancel h)

pub compare_up : (a b : Amount) → a.scale ≤ b.scale → order_of (val a.mantissa * 10 ^ (b.scale - a.scale)) (val b.mantissa) ≡ compare_of a b
unfolding compare_of
compare_up a b h =
    rw (order_scale (val a.mantissa * 10 ^ (b.scale - a.scale)) (val b.mantissa) (10 ^ a.scale) (ten_pos a.scale), ten_join (val a.mantissa) a.scale b.scale h)

pub compare_same : (a b : Amount) → a.scale ≡ b.scale → order_of (val a.mantissa) (val b.mantissa) ≡ compare_of a b
unfolding compare_of
compare_same a b e = rw e (order_scale _ _ (10 ^ b.scale) (ten_pos b.scale))
