-- Laws of the order of numbers and of amounts, in `specs` because `impl Ord for Amount` cites them.
use Rattle.std.proofs.Common.{◌≡◌, ℕ, ◌*◌, ◌^◌, ◌<◌, sym, refl, ap, ◌∙◌, mul-lt-mul_of_pos_right, mul_right_comm, arith, le-ltb, lt-ltb, eq-eqb, ne_eqb}
use native.Mathlib.Nat.{one-le-pow}
use Rattle.std.proofs.lemmas.Cmp.{ranked, nat_cmp_total}
use Rattle.std.specs.Cmp.{IsTotalOrder}
use Rattle.std.specs.Ordering.{MatchOrdering, ordering_reverse}
use Rattle.std.specs.declared.cmp.Ordering.{Ordering}
use Rattle.std.specs.declared.cmp.Ordering.TheVariants.{Less, Equal, Greater}
use Rattle.amount.specs.Numbers.{val, order_of}
use Rattle.amount.specs.Amounts.{compare_of}
use Rattle.amount.specs.declared.Amount.{Amount}

pub order_less : (a b : ℕ) → a < b → Less ≡ order_of a b
unfolding order_of
order_less a b h = simp (lt-ltb a b h)

pub order_equal : (a b : ℕ) → a ≡ b → Equal ≡ order_of a b
unfolding order_of
order_equal a b h = simp (le-ltb a b (omega arith), eq-eqb a b h)

pub order_greater : (a b : ℕ) → b < a → Greater ≡ order_of a b
unfolding order_of
order_greater a b h = simp (le-ltb a b (omega arith), ne_eqb a b (λ e. omega arith))

-- what an order tells a caller
abbrev pub OrderFact : Ordering → ℕ → ℕ → Type 0
OrderFact o a b = MatchOrdering o (a < b) (a ≡ b) (b < a)

pub order_fact : (a b : ℕ) → OrderFact (order_of a b) a b
unfolding order_of
order_fact a b = ranked a b (order_of a b) refl

pub ten_pos : (j : ℕ) → 0 < 10 ^ j
ten_pos j = one-le-pow j 10 (omega arith)

-- equal factors leave an order as it is
scale_case : (o : Ordering) (a b k : ℕ) → 0 < k → OrderFact o a b → o ≡ order_of (a * k) (b * k)
scale_case Less a b k h f = order_less _ _ (mul-lt-mul_of_pos_right f h)
scale_case Equal a b k h f = order_equal _ _ (ap (λ (x : ℕ). x * k) f)
scale_case Greater a b k h f = order_greater _ _ (mul-lt-mul_of_pos_right f h)

pub order_scale : (a b k : ℕ) → 0 < k → order_of a b ≡ order_of (a * k) (b * k)
order_scale a b k h = scale_case (order_of a b) a b k h (order_fact a b)

order_of_total : IsTotalOrder order_of
unfolding order_of
order_of_total = nat_cmp_total

pub order_reversed : (a b : ℕ) → ordering_reverse (order_of a b) ≡ order_of b a
order_reversed a b = sym (order_of_total.antisymm b a)

pub compare_reversed : (a b : Amount) → ordering_reverse (compare_of a b) ≡ compare_of b a
unfolding compare_of
compare_reversed a b = order_reversed _ _

-- three amounts at one scale: their order there is that of the numbers
module _ (a b c : Amount) where
  abbrev at_one : Amount → ℕ → ℕ → ℕ
  at_one x s t = val x.mantissa * 10 ^ s * 10 ^ t

  first_second : compare_of a b ≡ order_of (at_one a b.scale c.scale) (at_one b a.scale c.scale)
  unfolding compare_of
  first_second = order_scale _ _ (10 ^ c.scale) (ten_pos c.scale)

  second_third : compare_of b c ≡ order_of (at_one b a.scale c.scale) (at_one c b.scale a.scale)
  unfolding compare_of
  second_third = rw (mul_right_comm (val b.mantissa) (10 ^ a.scale) (10 ^ c.scale)) (order_scale _ _ (10 ^ a.scale) (ten_pos a.scale))

  first_third : compare_of a c ≡ order_of (at_one a b.scale c.scale) (at_one c b.scale a.scale)
  unfolding compare_of
  first_third =
      rw (mul_right_comm (val a.mantissa) (10 ^ b.scale) (10 ^ c.scale), mul_right_comm (val c.mantissa) (10 ^ b.scale) (10 ^ a.scale)) (order_scale _ _ (10 ^ b.scale) (ten_pos b.scale))

-- the order of amounts is a total one
pub compare_total : IsTotalOrder compare_of
compare_total =
    record {
      antisymm = λ a b. sym (compare_reversed b a);
      trans = λ a b c e f. first_third a b c ∙ order_of_total.trans _ _ _ (sym (first_second a b c) ∙ e) (sym (second_third a b c) ∙ f);
      congr = λ a b c e. first_third a b c ∙ order_of_total.congr _ _ _ (sym (first_second a b c) ∙ e) ∙ sym (second_third a b c);
    }
