-- "4: the operation is not of the profile": a profile's lists say so by themselves, so that no test stands before them.
use mathlib.Core.Path.{◌≡◌, refl, sym, ap, ◌∙◌}
use mathlib.Core.Bool.{Bool, true, false, cond, ◌&&◌}
use mathlib.Core.List.{List, [], ◌∷◌}
use mathlib.Core.Logic.{◌≢◌}
use Prim.Native.Nat.{ℕ}
use native.Mathlib.Omega.{arith}
use lib.Dec.{eqb, leb}
use borrow.Author.Tests.{eqb-true, eqb-false, ne_eqb, leb-true}
use Rattle.sheet.specs.Fields.{Field, Sight}
use Rattle.sheet.proofs.Tables.{and_left, and_right}
use Rattle.registry.specs.Readers.{amount_in}
use Rattle.registry.specs.Tests.{◌then◌, Row, among, ruled}
use Rattle.registry.specs.Call.{profile_of, operation_of}
use Rattle.registry.specs.declared.error.ProfileError.TheVariants.{UnknownProfile, UnknownOperation}
use Rattle.profiles.specs.Stack.{stack_rows, stack_rules}
use Rattle.profiles.specs.Balance.{balance_rows, balance_rules}
use Rattle.profiles.specs.Meter.{meter_rows, meter_rules}
use Rattle.std.specs.Prelude.{Ok, Err}

-- the operations of a row, and of all rows, are of the profile
abbrev each : ℕ → List ℕ → Bool
each p [] = true
each p (k ∷ ks) = eqb (profile_of k) p && each p ks

abbrev every : ℕ → List Row → Bool
every p [] = true
every p (r ∷ rs) = each p r.operations && every p rs

-- an operation of another profile is in no row
module _ (op p : ℕ) (h : eqb (profile_of op) p ≡ false) where
  not_among : (ks : List ℕ) → each p ks ≡ true → among op ks ≡ false
  not_among [] e = refl
  not_among (k ∷ ks) e =
      let q : profile_of k ≡ p = eqb-true (profile_of k) p (and_left (eqb (profile_of k) p) (each p ks) e) in
      rw (ne_eqb op k (λ i. eqb-false (profile_of op) p h (ap profile_of i ∙ q))) (not_among ks (and_right (eqb (profile_of k) p) (each p ks) e))

  not_ruled : (st : Sight) (inp : ℕ → Field) (rs : List Row) → every p rs ≡ true → ruled amount_in st inp op rs ≡ Err UnknownOperation
  not_ruled st inp [] e = refl
  not_ruled st inp (r ∷ rs) e =
      rw (not_among r.operations (and_left (each p r.operations) (every p rs) e)) (not_ruled st inp rs (and_right (each p r.operations) (every p rs) e))

lists : (p : ℕ) (rs : List Row) → (leb 1 p && leb p 3) ≡ true → every p rs ≡ true → (st : Sight) (inp : ℕ → Field) (op : ℕ)
    → (operation_of p op then ruled amount_in st inp op rs) ≡ ruled amount_in st inp op rs
unfolding operation_of
lists p rs b e st inp op = rw b (go (eqb (profile_of op) p) refl)
  where
    go : (t : Bool) → eqb (profile_of op) p ≡ t → (cond t (Ok tt) (Err UnknownOperation) then ruled amount_in st inp op rs) ≡ ruled amount_in st inp op rs
    go true h = refl
    go false h = sym (not_ruled op p h st inp rs e)

module _ (st : Sight) (inp : ℕ → Field) (op : ℕ) where
  pub stack_lists : (operation_of 1 op then stack_rules amount_in st inp op) ≡ stack_rules amount_in st inp op
  unfolding stack_rules
  stack_lists = lists 1 stack_rows refl refl st inp op

  pub balance_lists : (operation_of 2 op then balance_rules amount_in st inp op) ≡ balance_rules amount_in st inp op
  unfolding balance_rules
  balance_lists = lists 2 balance_rows refl refl st inp op

  pub meter_lists : (operation_of 3 op then meter_rules amount_in st inp op) ≡ meter_rules amount_in st inp op
  unfolding meter_rules
  meter_lists = lists 3 meter_rows refl refl st inp op

-- 3, where the profile is none of the three
pub no_profile : (p op : ℕ) → p ≢ 1 → p ≢ 2 → p ≢ 3 → operation_of p op ≡ Err UnknownProfile
unfolding operation_of
no_profile p op a b c = go (leb 1 p) (leb p 3) refl refl
  where
    go : (x y : Bool) → leb 1 p ≡ x → leb p 3 ≡ y → cond (x && y) (cond (eqb (profile_of op) p) (Ok (tt {0})) (Err UnknownOperation)) (Err UnknownProfile) ≡ Err UnknownProfile
    go true true l m = absurd (omega (arith, leb-true 1 p l, leb-true p 3 m, a, b, c))
    go true false l m = refl
    go false y l m = refl
