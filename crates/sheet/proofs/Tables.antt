-- Laws of a table that is walked from its first entry.
use mathlib.Core.Path.{◌≡◌, sym, subst}
use mathlib.Core.Logic.{⊎_elim}
use mathlib.Core.List.{List, [], ◌∷◌}
use mathlib.Core.Bool.{Bool, true, false, ◌&&◌}
use Prim.Native.Nat.{ℕ, zero, suc, ◌+◌, ◌-◌, ◌≤◌, ◌<◌, zero-le}
use native.Mathlib.Nat.{le_antisymm, le_of_suc-le-suc, eq-or-lt_of_le}
use native.Mathlib.Numerals.{add-one}
use native.Mathlib.Omega.{arith}
use Rattle.std.proofs.lemmas.Bool.{and_parts}
use Rattle.sheet.specs.Sheet.{entry_at, entries_from}
use Rattle.sheet.specs.Walk.{every, sum, prior}

-- both halves of a test that passed
pub and_left : (a b : Bool) → (a && b) ≡ true → a ≡ true
and_left a b h = (and_parts a b h).0

pub and_right : (a b : Bool) → (a && b) ≡ true → b ≡ true
and_right a b h = (and_parts a b h).1

module _ (P : ℕ → Bool) where
  -- one more, as code counts
  pub all_step : (k : ℕ) → every P (k + 1) ≡ (every P k && P k)
  unfolding every
  all_step k = rw add-one

  -- a test that fails spoils every longer run
  pub all_stays : (k n : ℕ) → k ≤ n → every P k ≡ false → every P n ≡ false
  unfolding every
  all_stays k zero h e = subst (λ (j : ℕ). every P j ≡ false) (le_antisymm h zero-le) e
  all_stays k (suc n) h e =
      ⊎_elim (λ q. subst (λ (j : ℕ). every P j ≡ false) q e) (λ lt. rw (all_stays k n (le_of_suc-le-suc lt) e)) (eq-or-lt_of_le h)

  pub all_at : (k n : ℕ) → k < n → every P n ≡ true → P k ≡ true
  unfolding every
  all_at k zero h e = absurd (omega arith)
  all_at k (suc n) h e =
      ⊎_elim (λ q. subst (λ (j : ℕ). P j ≡ true) (sym q) (and_right (every P n) (P n) e))
      (λ lt. all_at k n lt (and_left (every P n) (P n) e)) (eq-or-lt_of_le (le_of_suc-le-suc h))

module _ (f : ℕ → ℕ) where
  pub sum_step : (k : ℕ) → sum f (k + 1) ≡ sum f k + f k
  unfolding sum
  sum_step k = rw add-one

  pub sum_rise : (k n : ℕ) → k ≤ n → sum f k ≤ sum f n
  unfolding sum
  sum_rise k zero h = rw (le_antisymm h zero-le) (omega arith)
  sum_rise k (suc n) h =
      ⊎_elim (λ q. rw q (omega arith)) (λ lt. let i : sum f k ≤ sum f n = sum_rise k n (le_of_suc-le-suc lt) in omega arith) (eq-or-lt_of_le h)

  pub prior_step : (k : ℕ) → prior f (k + 1) ≡ f k
  unfolding prior
  prior_step k = rw add-one

-- the entries from entry k to the n-th, one at a time
pub entries_end : (s : List ℕ) (k n : ℕ) → n ≤ k → entries_from s k (n - k) ≡ []
unfolding entries_from
entries_end s k n h = let e : n - k ≡ 0 = omega arith in rw e

pub entries_step : (s : List ℕ) (k n : ℕ) → k < n → entries_from s k (n - k) ≡ entry_at s k ∷ entries_from s (k + 1) (n - (k + 1))
unfolding entries_from
entries_step s k n lt = let e : n - k ≡ suc (n - (k + 1)) = omega arith in rw e
