-- Laws of the zeros that are taken away from the end.
use Rattle.std.proofs.Common.{◌≡◌, ℕ, zero, suc, ◌-◌, ◌*◌, ◌/◌, ◌%◌, ◌^◌, ◌<◌, ◌≤◌, Bool, true, false, eqb, ◌⊎◌, sym, refl, ◌∙◌, inl, inr, mul_assoc, pow-suc, mul_right_comm, arith, eq-eqb, ne_eqb, eqb-true}
use borrow.Author.Tests.{eqb-false}
use Rattle.amount.specs.Numbers.{val, halves}
use Rattle.amount.specs.Helpers.{division_of}
use Rattle.amount.specs.declared.uint128.Uint128.{Uint128}
use Rattle.amount.specs.declared.uint128.Division.{Division}
use Rattle.amount.proofs.Halves.{Whole, whole_halves, val_of, val_halves, division_quotient, division_rest}
use Rattle.amount.specs.Canonical.{strip}
use Rattle.amount.specs.Texts.{Same}
use Rattle.amount.specs.declared.Amount.{Amount}

strip_stop : (s m : ℕ) → 0 < s → (m % 10 ≡ 0 → ⊥) → strip s m ≡ record { mantissa = halves m; scale = s }
unfolding strip
strip_stop zero m h z = let f : ◌≡◌ {A = ℕ} 0 1 = omega arith in cc
strip_stop (suc s) m h z = rw (ne_eqb (m % 10) 0 z)

strip_more : (s m : ℕ) → 0 < s → m % 10 ≡ 0 → strip s m ≡ strip (s - 1) (m / 10)
unfolding strip
strip_more zero m h z = let f : ◌≡◌ {A = ℕ} 0 1 = omega arith in cc
strip_more (suc s) m h z =
    let e : suc s - 1 ≡ s = omega arith in
    rw (eq-eqb (m % 10) 0 z, e)

strip_none : (s : ℕ) → strip s 0 ≡ record { mantissa = record { hi = 0; lo = 0 }; scale = 0 }
unfolding strip halves
strip_none zero = refl
strip_none (suc s) = strip_none s

pub strip_zero : {t : Bool} (s n : ℕ) → t ≡ eqb n 0 → t ≡ true → record { mantissa = record { hi = 0; lo = 0 }; scale = 0 } ≡ strip s n
strip_zero s n e h = rw (eqb-true n 0 (sym e ∙ h)) (sym (strip_none s))

-- m at the scale s leads to the same amount as `first` does
pub record Strips (first : Amount) (m : Uint128) (s : ℕ) : Type 0 where
  pub same : first ≡ strip s (val m)
  pub whole : Whole m

module _ {first : Amount} {m : Uint128} {s : ℕ} (h : Strips first m s) where
  pub strips_end : s ≤ 0 → record { mantissa = m; scale = s } ≡ first
  unfolding strip
  strips_end l =
      let e : s ≡ 0 = omega arith in
      rw (h.same, e, ← h.whole.whole)

  module _ (l : 0 < s) (d : Division Uint128) (e : d ≡ division_of (val m) 10) where
    rest_is : d.rest ≡ val m % 10
    rest_is = rw (e, division_rest (val m) 10)

    pub strips_stop : (d.rest ≡ 0 → ⊥) → record { mantissa = m; scale = s } ≡ first
    strips_stop z = rw (h.same, strip_stop s (val m) l (λ w. z (rest_is ∙ w)), ← h.whole.whole)

    pub strips_more : d.rest ≡ 0 → Strips first d.quotient (s - 1)
    strips_more z =
        let q : d.quotient ≡ halves (val m / 10) = rw (e, division_quotient (val m) 10) in
        record {
          same = h.same ∙ strip_more s (val m) l (sym rest_is ∙ z) ∙ rw (val_of q);
          whole = whole_halves (omega (arith, h.whole.fits)) q;
        }

-- what is left has the same value, and no zero at its end that stands after the point
pub record Lowest (s m : ℕ) (a : Amount) : Type 0 where
  pub same : Same (val a.mantissa) a.scale m s
  pub lowest : (a.scale ≡ 0) ⊎ (val a.mantissa % 10 ≡ 0 → ⊥)
  pub small : val a.mantissa ≤ m
  pub shorter : a.scale ≤ s

kept : (s m : ℕ) → (s ≡ 0) ⊎ (m % 10 ≡ 0 → ⊥) → Lowest s m (record { mantissa = halves m; scale = s })
kept s m z =
    let e = val_halves m in
    record { same = rw e; lowest = rw e z; small = omega (arith, e); shorter = omega arith }

ten_up : (x y s q : ℕ) → x * 10 ^ s ≡ y * q → x * 10 ^ suc s ≡ y * 10 * q
ten_up x y s q h = rw (pow-suc 10 s, ← mul_assoc x (10 ^ s) 10, h, mul_right_comm y q 10)

strip_lowest : (t : Bool) (s m : ℕ) → eqb (m % 10) 0 ≡ t → Lowest s (m / 10) (strip s (m / 10)) → Lowest (suc s) m (strip (suc s) m)
unfolding strip
strip_lowest true s m e l =
    let z = eqb-true (m % 10) 0 e in
    let d : m / 10 * 10 ≡ m = omega (arith, z) in
    rw e
    record {
      same = ten_up _ (m / 10) s _ l.same ∙ rw d;
      lowest = l.lowest;
      small = omega (arith, l.small);
      shorter = omega (arith, l.shorter);
    }
strip_lowest false s m e l = rw e (kept (suc s) m (inr (eqb-false (m % 10) 0 e)))

pub stripped_lowest : (s m : ℕ) → Lowest s m (strip s m)
unfolding strip
stripped_lowest zero m = kept 0 m (inl refl)
stripped_lowest (suc s) m = strip_lowest (eqb (m % 10) 0) s m refl (stripped_lowest s (m / 10))
