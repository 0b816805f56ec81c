-- Laws of tests and lists of tests: what a passed one says, and what a list that takes from an amount finds; what holds of each operation of a row.
use mathlib.Core.Path.{◌≡◌, refl, sym, ap, subst}
use mathlib.Core.Bool.{Bool, true, false, false≢true}
use mathlib.Core.List.{List, [], ◌∷◌}
use Prim.Native.Nat.{ℕ}
use native.Mathlib.Omega.{arith}
use lib.Dec.{eqb}
use borrow.Author.Tests.{eqb-true}
use Rattle.amount.specs.declared.Amount.{Amount}
use Rattle.sheet.specs.Fields.{Field, Sight}
use Rattle.registry.specs.Readers.{amount_of}
use Rattle.registry.specs.Helpers.{taking}
use Rattle.registry.specs.Tests.{◌then◌, above_zero, held_by, among, first, draws_on}
use Rattle.registry.specs.Refusals.{Outcome, Reading}
use Rattle.std.specs.Prelude.{IsErrAnd, Result, Ok, Err}

-- the last test's answer is the list's
pub then_end : (o : Outcome) → (o then Ok tt) ≡ o
then_end (Ok _) = refl
then_end (Err e) = refl

-- an error is no value, and a refusal no acceptance
pub failed_never : {A B E : Type 0} (e : E) (a : B) → ◌≡◌ {A = Result B E} (Err e) (Ok a) → A
failed_never e a h = let z : ◌≡◌ {A = ℕ} 0 1 = cc in absurd (omega arith)

pub refused_never : {A E : Type 0} (e : E) → ◌≡◌ {A = Result (Unit {0}) E} (Err e) (Ok tt) → A
refused_never e = failed_never e tt

-- both of two tests
pub then_both : (x y : Outcome) → (x then y) ≡ Ok tt → (x ≡ Ok tt) × (y ≡ Ok tt)
then_both (Ok _) y h = (refl, h)
then_both (Err e) y h = refused_never e h

-- what those that take from an amount read and find, where they are accepted
module _ (read : ℕ → Field → Reading) (st : Sight) (inp : ℕ → Field) (held asked : ℕ) where
  pub record Drawn : Type 0 where
    pub from : Amount
    pub taken : Amount
    pub from_is : amount_of held (st.at held) ≡ Ok from
    pub taken_is : read asked (inp asked) ≡ Ok taken
    pub positive : above_zero taken ≡ Ok tt
    pub within : held_by from taken ≡ Ok tt

  pub drawn : first read st inp (draws_on held asked) ≡ Ok tt → Drawn
  drawn = go (amount_of held (st.at held)) (read asked (inp asked)) refl refl
    where
      go : (x y : Reading) → amount_of held (st.at held) ≡ x → read asked (inp asked) ≡ y → taking x y ≡ Ok tt → Drawn
      go (Err e) y p q k = refused_never e k
      go (Ok h) (Err e) p q k = refused_never e k
      go (Ok h) (Ok a) p q k =
          let b = then_both (above_zero a) _ k in
          record { from = h; taken = a; from_is = p; taken_is = q; positive = b.0; within = (then_both (held_by h a) _ b.1).0 }

-- what holds of each number of a list holds of one among them
abbrev pub Each : (ℕ → Type 0) → List ℕ → Type 0
Each P [] = Unit {0}
Each P (n ∷ ns) = P n × Each P ns

pub among_each : (P : ℕ → Type 0) (l : List ℕ) → Each P l → (o : ℕ) → among o l ≡ true → P o
among_each P [] a o h = absurd (false≢true h)
among_each P (n ∷ ns) a o h = go (eqb o n) refl (λ k. among_each P ns a.1 o k)
  where
    go : (x : Bool) → eqb o n ≡ x → (among o ns ≡ true → P o) → P o
    go true e r = subst P (sym (eqb-true o n e)) a.0
    go false e r = r (rw e at h)

-- what the exit of a `?` returns: the error as it came
pub exits : {A E : Type 0} (r : Result A E) (e : E) → IsErrAnd r (λ x. x ≡ e) → r ≡ Err e
exits (Ok x) e h = absurd h
exits (Err x) e h = ap Err h
