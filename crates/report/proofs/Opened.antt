-- Laws of the list of a set's members: each once, rising, as many as the set has, and the place lines one by one.
use mathlib.Core.Path.{◌≡◌, refl, sym, ap, ◌∙◌}
use mathlib.Core.Bool.{Bool, true, false, cond}
use mathlib.Core.Option.{some, none}
use mathlib.Core.Logic.{◌⊎◌, inl, inr, ⊎_elim}
use mathlib.Core.List.{List, [], ◌∷◌, ◌++◌, append_assoc, append-nil}
use Prim.Native.Nat.{ℕ, zero, suc, ◌+◌, ◌≤◌, ◌<◌}
use native.Mathlib.Omega.{arith}
use lib.Dec.{eqb}
use lib.ListN.{length}
use borrow.Author.Tests.{eqb-true, eqb-false, ne_eqb}
use Rattle.sheet.specs.Walk.{sum}
use Rattle.book.specs.Sets.{bit, has, entry, occurrences}
use Rattle.book.specs.Book.{place_at, place_record}
use Rattle.book.specs.declared.Book.{Book}
use Rattle.book.proofs.Tables.{bit_lt}
use Rattle.report.specs.Listing.{place_line, place_lines}
use Rattle.report.specs.Places.{members_from, Rising, balance_lines}

module _ (o : ℕ) where
  -- the places outside k .. k + n - 1
  pub none_outside : (n k p : ℕ) → (p < k) ⊎ (k + n ≤ p) → occurrences p (members_from o k n) ≡ 0
  unfolding members_from occurrences
  none_outside zero k p h = refl
  none_outside (suc n) k p h = go (has o k) (none_outside n (suc k) p (⊎_elim (λ l. inl (omega arith)) (λ l. inr (omega arith)) h))
    where
      go : (t : Bool) → occurrences p (members_from o (suc k) n) ≡ 0 → occurrences p (cond t (k ∷ members_from o (suc k) n) (members_from o (suc k) n)) ≡ 0
      go true e = rw (ne_eqb p k (λ z. ⊎_elim (λ l. omega arith) (λ l. omega arith) h), e)
      go false e = e

  -- those inside
  pub each_inside : (n k p : ℕ) → k ≤ p → p < k + n → occurrences p (members_from o k n) ≡ bit o p
  unfolding members_from occurrences
  each_inside zero k p g h = omega arith
  each_inside (suc n) k p g h = go (has o k) (eqb p k) refl refl (λ l. each_inside n (suc k) p l (omega arith))
    where
      go : (t u : Bool) → has o k ≡ t → eqb p k ≡ u → (suc k ≤ p → occurrences p (members_from o (suc k) n) ≡ bit o p)
          → occurrences p (cond t (k ∷ members_from o (suc k) n) (members_from o (suc k) n)) ≡ bit o p
      go true true e f r =
          let s : p ≡ k = eqb-true p k f in
          rw (f, none_outside n (suc k) p (inl (omega arith)), s) (omega (arith, eqb-true (bit o k) 1 e))
      go true false e f r = let z = eqb-false p k f in rw f (omega (arith, r (omega arith)))
      go false true e f r =
          let s : p ≡ k = eqb-true p k f in
          let z = eqb-false (bit o k) 1 e in
          none_outside n (suc k) p (inl (omega arith)) ∙ rw s (omega (arith, bit_lt o k))
      go false false e f r = r (let z = eqb-false p k f in omega arith)

  rising_down : (k : ℕ) (l : List ℕ) → Rising (suc k) l → Rising k l
  rising_down k [] r = tt
  rising_down k (p ∷ l) r = (omega (arith, r.0), r.1)

  pub rising : (n k : ℕ) → Rising k (members_from o k n)
  unfolding members_from
  rising zero k = tt
  rising (suc n) k = go (has o k) (rising n (suc k))
    where
      go : (t : Bool) → Rising (suc k) (members_from o (suc k) n) → Rising k (cond t (k ∷ members_from o (suc k) n) (members_from o (suc k) n))
      go true r = (omega arith, r)
      go false r = rising_down k (members_from o (suc k) n) r

  pub as_many : (n k : ℕ) → sum (bit o) (k + n) ≡ sum (bit o) k + length (members_from o k n)
  unfolding members_from sum
  as_many zero k = let e : k + 0 ≡ k = omega arith in rw e (omega arith)
  as_many (suc n) k = let e : k + suc n ≡ suc k + n = omega arith in rw e (as_many n (suc k) ∙ go (has o k) refl)
    where
      go : (t : Bool) → has o k ≡ t → sum (bit o) k + bit o k + length (members_from o (suc k) n)
          ≡ sum (bit o) k + length (cond t (k ∷ members_from o (suc k) n) (members_from o (suc k) n))
      go true e = omega (arith, eqb-true (bit o k) 1 e)
      go false e = let z = eqb-false (bit o k) 1 e in omega (arith, bit_lt o k)

-- the place lines, one by one
module _ (b : Book) where
  pub lines_from : (n k : ℕ) → place_lines b (k + n) ≡ place_lines b k ++ balance_lines b (members_from b.opened k n)
  unfolding members_from balance_lines place_lines place_line place_at entry place_record
  lines_from zero k = let e : k + 0 ≡ k = omega arith in rw e (sym (append-nil (place_lines b k)))
  lines_from (suc n) k = let e : k + suc n ≡ suc k + n = omega arith in rw e (lines_from n (suc k) ∙ go (has b.opened k))
    where
      go : (t : Bool) → place_lines b k ++ place_line k (cond t (some (place_record b k)) none) ++ balance_lines b (members_from b.opened (suc k) n)
          ≡ place_lines b k ++ balance_lines b (cond t (k ∷ members_from b.opened (suc k) n) (members_from b.opened (suc k) n))
      go true = append_assoc (place_lines b k) (place_line k (some (place_record b k))) (balance_lines b (members_from b.opened (suc k) n))
      go false = ap (λ (l : List ℕ). l ++ balance_lines b (members_from b.opened (suc k) n)) (append-nil (place_lines b k))
