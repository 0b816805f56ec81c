-- The balance profile's lists at a place: accepted exactly when the amount is readable, above zero and, for those that take,
-- within the balance. They hold for any way to read an input amount that gives whole numbers.
use mathlib.Core.Path.{◌≡◌, refl, ap, ◌∙◌}
use mathlib.Core.Logic.{◌≢◌}
use mathlib.Core.Bool.{Bool, true, false, cond}
use mathlib.Core.List.{List, ◌∷◌}
use Prim.Native.Nat.{ℕ, ◌*◌, ◌<◌, ◌≤◌}
use native.Mathlib.Omega.{arith}
use lib.Dec.{eqb}
use borrow.Author.Tests.{eqb-false, ne_eqb}
use Rattle.amount.specs.Numbers.{val, limit, halves, order_of}
use Rattle.amount.specs.Amounts.{compare_of}
use Rattle.amount.specs.declared.Amount.{Amount}
use Rattle.std.specs.declared.cmp.Ordering.{Ordering}
use Rattle.std.specs.declared.cmp.Ordering.TheVariants.{Less, Equal, Greater}
use Rattle.amount.proofs.Halves.{OrderFact, order_fact, val_halves}
use Rattle.sheet.specs.Fields.{Field, balance, amount}
use Rattle.registry.proofs.Tests.{refused_never, then_both, Drawn, drawn}
use Rattle.registry.proofs.Readers as Readers
use Rattle.registry.specs.Readers.{amount_in, amount_of, readable, on_amount}
use Rattle.registry.specs.Tests.{◌then◌, above_zero, held_by, unless_less, state_there, first, born}
use Rattle.registry.specs.declared.error.ProfileError.TheVariants.{NonPositiveAmount, InsufficientQuantity}
use Rattle.registry.specs.Refusals.{Reading}
use Rattle.profiles.specs.Balance.{debited, credited}
use Rattle.book.specs.Places.{place_view}
use Rattle.book.specs.Book.{whole_amount}
use Rattle.std.specs.Prelude.{Ok, Err}

pub above_zero_lem : (a : Amount) → above_zero a ≡ Ok tt → 0 < val a.mantissa
unfolding above_zero
above_zero_lem a h = go (eqb (val a.mantissa) 0) refl h
  where
    go : (t : Bool) → eqb (val a.mantissa) 0 ≡ t → cond t (Err NonPositiveAmount) (Ok (tt {0})) ≡ Ok tt → 0 < val a.mantissa
    go true e q = refused_never NonPositiveAmount q
    go false e q = let z : val a.mantissa ≢ 0 = eqb-false (val a.mantissa) 0 e in omega arith

pub zero_above : (a : Amount) → 0 < val a.mantissa → above_zero a ≡ Ok tt
unfolding above_zero
zero_above a h = rw (ne_eqb (val a.mantissa) 0 (λ e. absurd (omega arith)))

above_number : (n : ℕ) → 0 < n → above_zero (whole_amount n) ≡ Ok tt
above_number n h = zero_above (whole_amount n) (rw (val_halves n) h)

-- at scale 0 the order is that of the numbers
compare_whole : (n : ℕ) (b : Amount) → b.scale ≡ 0 → compare_of b (whole_amount n) ≡ order_of (val b.mantissa) n
unfolding compare_of
compare_whole n b e = rw (e, val_halves n) (ap (λ (k : ℕ). order_of k (n * 1)) one ∙ ap (λ (k : ℕ). order_of (val b.mantissa) k) two)
  where
    one : val b.mantissa * 1 ≡ val b.mantissa
    one = omega arith

    two : n * 1 ≡ n
    two = omega arith

pub held_fact : (n : ℕ) (b : Amount) → b.scale ≡ 0 → held_by b (whole_amount n) ≡ Ok tt → n ≤ val b.mantissa
unfolding held_by
held_fact n b e h = go (order_of (val b.mantissa) n) (order_fact (val b.mantissa) n) (rw (compare_whole n b e) at h)
  where
    go : (o : Ordering) → OrderFact o (val b.mantissa) n → unless_less o (InsufficientQuantity b (whole_amount n)) ≡ Ok tt → n ≤ val b.mantissa
    go Less f q = refused_never (InsufficientQuantity b (whole_amount n)) q
    go Equal f q = omega arith
    go Greater f q = omega arith

pub fact_held : (n : ℕ) (b : Amount) → b.scale ≡ 0 → n ≤ val b.mantissa → held_by b (whole_amount n) ≡ Ok tt
unfolding held_by
fact_held n b e h = rw (compare_whole n b e) (go (order_of (val b.mantissa) n) (order_fact (val b.mantissa) n))
  where
    go : (o : Ordering) → OrderFact o (val b.mantissa) n → unless_less o (InsufficientQuantity b (whole_amount n)) ≡ Ok tt
    go Less f = absurd (omega arith)
    go Equal f = refl
    go Greater f = refl

pub held_short : (n : ℕ) (b : Amount) → b.scale ≡ 0 → val b.mantissa < n → held_by b (whole_amount n) ≡ Err (InsufficientQuantity b (whole_amount n))
unfolding held_by
held_short n b e h = rw (compare_whole n b e) (go (order_of (val b.mantissa) n) (order_fact (val b.mantissa) n))
  where
    go : (o : Ordering) → OrderFact o (val b.mantissa) n → unless_less o (InsufficientQuantity b (whole_amount n)) ≡ Err (InsufficientQuantity b (whole_amount n))
    go Less f = refl
    go Equal f = absurd (omega arith)
    go Greater f = absurd (omega arith)

-- the amount of a field, read as a whole number
pub record Asked (read : ℕ → Field → Reading) (f : Field) : Type 0 where
  pub number : ℕ
  pub fits : number < limit
  pub given : read amount f ≡ Ok (whole_amount number)

-- above zero
pub record Positive (read : ℕ → Field → Reading) (f : Field) : Type 0 where
  pub asked : Asked read f
  pub positive : 0 < asked.number

-- and within a balance
pub record Within (read : ℕ → Field → Reading) (f : Field) (b : Amount) : Type 0 where
  pub some : Positive read f
  pub within : some.asked.number ≤ val b.mantissa

-- a reader that gives whole numbers only
abbrev pub Whole : (ℕ → Field → Reading) → Type 0
Whole read = (f : Field) (a : Amount) → read amount f ≡ Ok a → Asked read f

module _ (read : ℕ → Field → Reading) (reads : Whole read) (s u : List ℕ) (b : Amount) (inp : ℕ → Field) where
  given_positive : (a : Amount) → read amount (inp amount) ≡ Ok a → above_zero a ≡ Ok tt → Positive read (inp amount)
  given_positive a q h =
      let w : Asked read (inp amount) = reads (inp amount) a q in
      let e : a ≡ whole_amount w.number = cc (q, w.given) in
      let p : 0 < val (halves w.number) = rw e at (above_zero_lem a h) in
      record { asked = w; positive = rw (val_halves w.number) at p }

  pub credit_accepted : first read (place_view s u b) inp (born ∷ credited) ≡ Ok tt → Positive read (inp amount)
  unfolding state_there amount_of
  credit_accepted h = go (read amount (inp amount)) refl h
    where
      go : (r : Reading) → read amount (inp amount) ≡ r → (readable r then on_amount r above_zero then Ok tt) ≡ Ok tt → Positive read (inp amount)
      go (Err e) q k = refused_never e k
      go (Ok a) q k = given_positive a q (then_both (above_zero a) (Ok tt) k).0

  pub credit_accepts : Positive read (inp amount) → first read (place_view s u b) inp (born ∷ credited) ≡ Ok tt
  unfolding state_there amount_of
  credit_accepts w = rw (w.asked.given, above_number w.asked.number w.positive)

  module _ (whole-balance : b.scale ≡ 0) where
    pub debit_accepted : first read (place_view s u b) inp (born ∷ debited) ≡ Ok tt → Within read (inp amount) b
    unfolding state_there amount_of
    debit_accepted h =
        let d : Drawn read (place_view s u b) inp balance amount = drawn read (place_view s u b) inp balance amount h in
        let w : Positive read (inp amount) = given_positive d.taken d.taken_is d.positive in
        let e : d.taken ≡ whole_amount w.asked.number = cc (d.taken_is, w.asked.given) in
        let f : b ≡ d.from = cc (d.from_is) in
        record { some = w; within = held_fact w.asked.number b whole-balance (rw (e, ← f) at d.within) }

    pub debit_accepts : Within read (inp amount) b → first read (place_view s u b) inp (born ∷ debited) ≡ Ok tt
    unfolding state_there amount_of
    debit_accepts w =
        rw (w.some.asked.given, above_number w.some.asked.number w.some.positive, fact_held w.some.asked.number b whole-balance w.within)

-- document 01's reader is one
pub amount_in_whole : Whole amount_in
amount_in_whole f a h =
    let w = Readers.amount_in_whole amount f a h in
    record { number = w.0; fits = w.1; given = h ∙ ap Ok w.2 }
