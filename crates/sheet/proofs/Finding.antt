-- Lookup finds a name if and only if the table has it. The theorem is `finds`.
use mathlib.Core.Path.{◌≡◌, refl, sym, ap, ◌∙◌}
use mathlib.Core.Bool.{Bool, true, false, cond, false≢true}
use mathlib.Core.List.{List}
use Rattle.std.specs.Prelude.{Some, None}
use mathlib.Core.Logic.{⊎_elim, ◌≢◌}
use Prim.Native.Nat.{ℕ, zero, suc, ◌+◌, ◌*◌, ◌-◌, ◌≤◌, ◌<◌}
use native.Mathlib.Nat.{eq-or-lt_of_le}
use native.Mathlib.Omega.{arith}
use lib.ListN.{get_or}
use lib.Dec.{eqb}
use borrow.Author.Tests.{eqb-true, eq-eqb, ne_eqb}
use Rattle.sheet.specs.declared.Entry.{Entry}
use Rattle.sheet.specs.Sheet.{entry_at, entries_from, lookup, count, table}
use Rattle.sheet.proofs.Tables.{entries_step, entries_end}

-- one entry at a time
pub lookup_end : (s : List ℕ) (name k n : ℕ) → n ≤ k → lookup name (entries_from s k (n - k)) ≡ None
unfolding lookup
lookup_end s name k n h = rw (entries_end s k n h)

lookup_step : (s : List ℕ) (name k n : ℕ) → k < n
    → lookup name (entries_from s k (n - k)) ≡ cond (eqb (entry_at s k).name name) (Some (entry_at s k)) (lookup name (entries_from s (k + 1) (n - (k + 1))))
unfolding lookup
lookup_step s name k n lt = rw (entries_step s k n lt)

-- by the entry's name alone
module _ (s : List ℕ) (name k n : ℕ) (lt : k < n) where
  pub lookup_here : get_or s (1 + 6 * k) 0 ≡ name → lookup name (entries_from s k (n - k)) ≡ Some (entry_at s k)
  unfolding entry_at
  lookup_here h = lookup_step s name k n lt ∙ rw (eq-eqb (get_or s (1 + 6 * k) 0) name h)

  pub lookup_next : get_or s (1 + 6 * k) 0 ≢ name → lookup name (entries_from s k (n - k)) ≡ lookup name (entries_from s (k + 1) (n - (k + 1)))
  unfolding entry_at
  lookup_next h = lookup_step s name k n lt ∙ rw (ne_eqb (get_or s (1 + 6 * k) 0) name h)

-- an entry of the first n that has the name
pub record Stands (s : List ℕ) (name n : ℕ) (e : Entry) : Type 0 where
  pub k : ℕ
  pub below : k < n
  pub here : e ≡ entry_at s k
  pub named : e.name ≡ name

found_at : (s : List ℕ) (name k m n : ℕ) (e : Entry) → k + m ≡ n → lookup name (entries_from s k m) ≡ Some e → Stands s name n e
unfolding lookup entries_from
found_at s name k zero n e q h = absurd (let z : ◌≡◌ {A = ℕ} 0 1 = cc in omega arith)
found_at s name k (suc m) n e q h = go (eqb (entry_at s k).name name) refl (λ g. found_at s name (k + 1) m n e (omega arith) g) h
  where
    go : (b : Bool) → eqb (entry_at s k).name name ≡ b → (lookup name (entries_from s (k + 1) m) ≡ Some e → Stands s name n e)
        → cond b (Some (entry_at s k)) (lookup name (entries_from s (k + 1) m)) ≡ Some e → Stands s name n e
    go true t later g =
        let i : e ≡ entry_at s k = cc in
        record { k = k; below = omega arith; here = i; named = ap (λ (x : Entry). x.name) i ∙ eqb-true (entry_at s k).name name t }
    go false t later g = later g

pub found_stands : (s : List ℕ) (name : ℕ) (e : Entry) → lookup name (table s) ≡ Some e → Stands s name (count s) e
found_stands s name e h = found_at s name 0 (count s) (count s) e (omega arith) h

-- the entry that lookup gives among m from entry k on
pub record Finds (s : List ℕ) (name k m : ℕ) : Type 0 where
  pub e : Entry
  pub found : lookup name (entries_from s k m) ≡ Some e

at_least : (s : List ℕ) (name j k m : ℕ) → k ≤ j → j < k + m → (entry_at s j).name ≡ name → Finds s name k m
unfolding lookup entries_from
at_least s name j k zero l h q = absurd (omega arith)
at_least s name j k (suc m) l h q = go (eqb (entry_at s k).name name) refl (λ g. at_least s name j (k + 1) m g (omega arith) q)
  where
    go : (b : Bool) → eqb (entry_at s k).name name ≡ b → (k + 1 ≤ j → Finds s name (k + 1) m) → Finds s name k (suc m)
    go true t later = record { e = entry_at s k; found = rw t }
    go false t later =
        ⊎_elim (λ (i : k ≡ j). absurd (false≢true (sym t ∙ eq-eqb (entry_at s k).name name (rw i q))))
        (λ (lt : k < j). let f = later (omega arith) in record { e = f.e; found = rw t f.found }) (eq-or-lt_of_le l)

-- THE THEOREM: what lookup gives stands in the table under that name, and where the table has the name lookup gives an entry
pub finds : (s : List ℕ) (name : ℕ)
    → ((e : Entry) → lookup name (table s) ≡ Some e → Stands s name (count s) e)
    × ((k : ℕ) → k < count s → (entry_at s k).name ≡ name → Finds s name 0 (count s))
finds s name = (found_stands s name, λ k h q. at_least s name k 0 (count s) (omega arith) (omega arith) q)
