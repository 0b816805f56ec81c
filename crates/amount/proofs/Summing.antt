-- Laws of a sum and a difference at the larger scale: which answer the answers on mantissas lead to.
use Rattle.std.proofs.Common.{◌≡◌, ℕ, ◌+◌, ◌-◌, ◌*◌, ◌^◌, ◌<◌, max, true, false, cond, Some, None, Ok, Err, ◌&&◌, ltb, leb, ◌⊎◌, sym, ap, ⊎_elim, arith, ltb-false, ltb-true, le-ltb, lt-ltb, le-leb}
use mathlib.Core.Bool.{and-false}
use borrow.Author.Tests.{lt-leb}
use Rattle.std.proofs.lemmas.Option.{cond_some}
use Rattle.std.proofs.lemmas.Bool.{and_cases, and_parts, cases_lt}
use Rattle.amount.specs.Numbers.{val, limit, halves}
use Rattle.amount.specs.Helpers.{checked, checked_less, aligned_of}
use Rattle.amount.specs.Amounts.{mantissa_at, common_scale, sum_of, difference_of}
use Rattle.amount.specs.declared.uint128.Uint128.{Uint128}
use Rattle.amount.specs.declared.Amount.{Amount}
use Rattle.amount.specs.declared.Pair.{Pair}
use Rattle.amount.specs.declared.AmountError.TheVariants.{Overflow, Underflow}
use Rattle.amount.proofs.Halves.{val_of, cond_none, checked_is, checked_none, difference_is, difference_none}
use Rattle.amount.proofs.Reading.{if_false, if_large, if_given}

-- which answer the two rescaled mantissas lead to, at the larger scale s
module _ (a b : Amount) (s : ℕ) (e : s ≡ max a.scale b.scale) where
  aligned_at : cond (ltb (mantissa_at a s) limit && ltb (mantissa_at b s) limit) (Some (record { left = halves (mantissa_at a s); right = halves (mantissa_at b s); scale = s })) None ≡ aligned_of a b
  unfolding aligned_of
  aligned_at = rw e

  pub align_left : None ≡ checked (val a.mantissa * 10 ^ (s - a.scale)) → None ≡ aligned_of a b
  unfolding mantissa_at
  align_left h = rw (le-ltb (mantissa_at a s) limit (checked_none _ h)) at aligned_at

  pub align_right : None ≡ checked (val b.mantissa * 10 ^ (s - b.scale)) → None ≡ aligned_of a b
  unfolding mantissa_at
  align_right h = rw (le-ltb (mantissa_at b s) limit (checked_none _ h), and-false (ltb (mantissa_at a s) limit)) at aligned_at

  pub align_both : (l r : Uint128) → Some l ≡ checked (val a.mantissa * 10 ^ (s - a.scale)) → Some r ≡ checked (val b.mantissa * 10 ^ (s - b.scale)) → Some (record { left = l; right = r; scale = s }) ≡ aligned_of a b
  unfolding mantissa_at
  align_both l r f g =
      let p = checked_is _ l f in
      let q = checked_is _ r g in
      rw (p.1, q.1) (rw (lt-ltb (mantissa_at a s) limit p.0, lt-ltb (mantissa_at b s) limit q.0) at aligned_at)

module _ (a b : Amount) where
  abbrev A : ℕ
  A = mantissa_at a (common_scale a b)

  abbrev B : ℕ
  B = mantissa_at b (common_scale a b)

  difference_refused : (ltb A limit && leb B A) ≡ false → Err Underflow ≡ difference_of a b
  unfolding difference_of
  difference_refused h = rw h (if_false _ _ _)

  module _ (h : None ≡ aligned_of a b) where
    outside : (ltb A limit ≡ false) ⊎ (ltb B limit ≡ false)
    unfolding aligned_of
    outside = and_cases (ltb A limit) (ltb B limit) (cond_none (ltb A limit && ltb B limit) _ h)

    pub add_outside : Err Overflow ≡ sum_of a b
    unfolding sum_of
    add_outside =
        ⊎_elim (λ f. if_large _ true (A + B) _ (omega (arith, ltb-false A limit f))) (λ f. if_large _ true (A + B) _ (omega (arith, ltb-false B limit f))) outside

    pub subtract_outside : Err Underflow ≡ difference_of a b
    subtract_outside =
        ⊎_elim (λ f. difference_refused (rw f))
        (λ f.
        ⊎_elim (λ l. difference_refused (rw (lt-leb B A (omega (arith, ltb-false B limit f, l)), and-false (ltb A limit)))) (λ l. difference_refused (rw (le-ltb A limit l))) (cases_lt A limit))
        outside

  module _ (p : Pair) (h : Some p ≡ aligned_of a b) where
    told : (A < limit) × (B < limit) × (p ≡ record { left = halves A; right = halves B; scale = common_scale a b })
    unfolding aligned_of
    told =
        let k = cond_some (ltb A limit && ltb B limit) _ p (sym h) in (
          ltb-true A limit (and_parts (ltb A limit) (ltb B limit) k.0).0,
          ltb-true B limit (and_parts (ltb A limit) (ltb B limit) k.0).1,
          sym k.1,
        )

    left_is : val p.left ≡ A
    left_is = val_of (ap (λ (q : Pair). q.left) told.2)

    right_is : val p.right ≡ B
    right_is = val_of (ap (λ (q : Pair). q.right) told.2)

    scale_is : p.scale ≡ common_scale a b
    scale_is = ap (λ (q : Pair). q.scale) told.2

    pub add_large : None ≡ checked (val p.left + val p.right) → Err Overflow ≡ sum_of a b
    unfolding sum_of
    add_large e = if_large _ true (A + B) _ (omega (arith, checked_none _ e, left_is, right_is))

    pub add_given : (x : Uint128) → Some x ≡ checked (val p.left + val p.right) → Ok (record { mantissa = x; scale = p.scale }) ≡ sum_of a b
    unfolding sum_of
    add_given x e =
        let k = checked_is _ x (rw (left_is, right_is) at e) in
        rw scale_is (if_given _ x (A + B) _ k.0 k.1)

    pub subtract_less : None ≡ checked_less (val p.left) (val p.right) → Err Underflow ≡ difference_of a b
    subtract_less e =
        difference_refused (rw (lt-leb B A (difference_none _ _ (rw (left_is, right_is) at e)), and-false (ltb A limit)))

    pub subtract_given : (x : Uint128) → Some x ≡ checked_less (val p.left) (val p.right) → Ok (record { mantissa = x; scale = p.scale }) ≡ difference_of a b
    unfolding difference_of
    subtract_given x e =
        let k = difference_is _ _ x (rw (left_is, right_is) at e) in
        rw (scale_is, lt-ltb A limit told.0, le-leb B A k.0) (if_given _ x (A - B) _ (omega (arith, told.0)) k.1)
