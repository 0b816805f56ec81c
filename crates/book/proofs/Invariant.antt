-- What holds of a book and the plain book between any two steps, and what each kind of step has to show.
-- A fate d says of each transfer number whether its credits go back in the end: a cancel turns it.
use mathlib.Core.Path.{◌≡◌, refl, ap, ◌∙◌}
use mathlib.Core.Bool.{Bool, true, false, cond, true≢false}
use mathlib.Core.Option.{Option, some, none}
use mathlib.Core.List.{List}
use Prim.Native.Nat.{ℕ, ◌+◌, ◌<◌}
use native.Mathlib.Omega.{arith}
use borrow.Author.Tests.{eq-eqb, ne_eqb}
use Rattle.amount.specs.Numbers.{limit}
use Rattle.amount.proofs.Halves.{val_halves}
use Rattle.book.specs.Book.{credits, whole_amount, name_bytes, place_record, place_at, transfer_at, stock_of, total, is_some, name_ok, set_balance, set_record}
use Rattle.book.specs.Steps.{Step, view_of, effect, issues, takes, way}
use Rattle.book.specs.Plain.{Holding, Plain, stock, plain_total, plain_answer, plain_put, with_balance, holds, plain_credits, plain_effect}
use Rattle.book.specs.Claim.{route, noted, left_out, cell, shown, cell_at}
use Rattle.book.specs.declared.Place.{Place}
use Rattle.book.specs.declared.Book.{Book}
use Rattle.book.proofs.Tables.{Altered, altered_map, altered_all, sum_altered}
use Rattle.book.proofs.Formed.{Whole}
use Rattle.book.proofs.Views.{Good, good_place, total_place, PlaceSet, record_set, same_transfers, place_raw, coming, coming_same}
use Rattle.std.specs.Prelude.{Ok}

-- a place of the plain book, with n credits
abbrev pub holding : Holding → ℕ → Option Holding
holding h n = some (with_balance h n)

-- a place with c credits more
abbrev pub credited : ℕ → Option Holding → Option Holding
credited c none = none
credited c (some h) = holding h (h.balance + c)

-- the plain book has at each place what the book has there, and what is coming to it
pub record Inv (d : ℕ → Bool) (b : Book) (l : Plain) : Type 0 where
  pub good : Good b
  pub fits : total b < limit
  pub sums : plain_total l ≡ total b
  pub matches : (p : ℕ) → p < 16 → l p ≡ credited (coming d b p) (cell_at b p)

-- what an accepted step keeps, where d are the fates after it
pub record Kept (d : ℕ → Bool) (b : Book) (l : Plain) (s : Step) : Type 0 where
  pub inv : Inv d (effect b s) (cond (left_out (way s) d) l (plain_effect l s))
  pub plain : left_out (way s) d ≡ false → plain_answer (name_bytes b.unit) l s ≡ Ok tt
  pub unit : (effect b s).unit ≡ b.unit
  pub moved : total (effect b s) + takes s ≡ total b + issues s
  pub routes : (q : ℕ) → route (transfer_at (effect b s) q) ≡ noted (way s) (λ t. route (transfer_at b t)) q

-- ---- cells and views

pub view_there : (u : List ℕ) (o : Option Place) → (view_of u o).there ≡ is_some o
view_there u none = refl
view_there u (some x) = refl

pub is_none : {A : Type 0} (o : Option A) → is_some o ≡ false → o ≡ none
is_none none h = refl
is_none (some x) h = absurd (true≢false h)

-- an open place, in the book and in the plain book
module _ {d : ℕ → Bool} {b : Book} {l : Plain} (v : Inv d b l) (p : ℕ) (low : p < 16) (here : is_some (place_at b p) ≡ true) where
  pub place_is : place_at b p ≡ some (place_record b p)
  place_is = (place_raw b p here).1

  pub cell_is : cell_at b p ≡ some (cell (place_record b p))
  cell_is = ap shown place_is

  pub plain_is : l p ≡ holding (cell (place_record b p)) (credits (place_record b p).balance + coming d b p)
  plain_is = v.matches p low ∙ ap (credited (coming d b p)) cell_is

  pub name_is : name_ok (place_record b p).subject ≡ true
  name_is = rw place_is at (v.good.places p low)

  pub whole_is : Whole (place_record b p)
  unfolding place_record
  whole_is = v.good.shape.places.wholes p low

-- ---- the plain book

pub plain_put_lem : (l : Plain) (p : ℕ) (x : Option Holding) → Altered l (plain_put l p x) p x
unfolding plain_put
plain_put_lem l p x = record { there = rw (eq-eqb p p refl); elsewhere = λ q d. rw (ne_eqb q p d) }

pub plain_credits_lem : (l : Plain) (p n m : ℕ) (h : Holding) → l p ≡ holding h n → Altered l (plain_credits l p m) p (holding h m)
plain_credits_lem l p n m h e = rw (← (ap (λ (o : Option Holding). holds o m) e)) (plain_put_lem l p (holds (l p) m))

pub plain_total_lem : {l m : Plain} {p : ℕ} {x : Option Holding} → Altered l m p x → p < 16 → plain_total m + stock (l p) ≡ plain_total l + stock x
unfolding plain_total
plain_total_lem a h = sum_altered (altered_map stock a) 16 h

-- ---- both at once

-- a place set in both books
pub matches_place : (d : ℕ → Bool) {b c : Book} {p : ℕ} {x : Option Place} {l m : Plain} {y : Option Holding} → PlaceSet b c p x → Altered l m p y
    → ((q : ℕ) → q < 16 → l q ≡ credited (coming d b q) (cell_at b q)) → y ≡ credited (coming d b p) (shown x)
    → (q : ℕ) → q < 16 → m q ≡ credited (coming d c q) (cell_at c q)
matches_place d {b} {c} {p} {x} {l} {m} {y} e a old h q k =
    rw (coming_same d b c (same_transfers e.others) q)
    (altered_all (λ i o. m i ≡ credited (coming d b i) (shown o)) e.places (a.there ∙ h) q (λ z. a.elsewhere q z ∙ old q k))

-- the record of an open place set in both books, each as the other: what act does, and begin at its source
pub record SetBoth (d : ℕ → Bool) (b : Book) (l : Plain) (p : ℕ) (x : Place) (y : Option Holding) : Type 0 where
  pub inv : Inv d (set_record b p x) (plain_put l p y)
  pub set : PlaceSet b (set_record b p x) p (some x)
  pub book : total (set_record b p x) + stock_of (some (place_record b p)) ≡ total b + stock_of (some x)

pub set_both : {d : ℕ → Bool} {b : Book} {l : Plain} → Inv d b l → (p : ℕ) → p < 16 → is_some (place_at b p) ≡ true → (x : Place) → Whole x
    → x.subject ≡ (place_record b p).subject → (y : Option Holding) → y ≡ credited (coming d b p) (shown (some x))
    → total b + stock_of (some x) < limit + stock_of (some (place_record b p)) → SetBoth d b l p x y
set_both {d} {b} {l} v p low here x w name y same room =
    record {
      inv =
          record {
            good = good_place e (rw name (name_is v p low here)) v.good;
            fits = omega (arith, after_total);
            sums = omega (arith, plain_total_lem a low, ap stock same, ap stock (plain_is v p low here), after_total, v.sums);
            matches = matches_place d e a v.matches same;
          };
      set = e;
      book = after_total;
    }
  where
    e : PlaceSet b (set_record b p x) p (some x)
    e = record_set b p x v.good.shape low here w

    a : Altered l (plain_put l p y) p y
    a = plain_put_lem l p y

    after_total : total (set_record b p x) + stock_of (some (place_record b p)) ≡ total b + stock_of (some x)
    after_total = rw (place_is v p low here) at (total_place e low)

-- its credits alone
pub credits_whole : (x : Place) (n : ℕ) → Whole x → Whole (set_balance x (whole_amount n))
credits_whole x n w = record { balance = refl; reserved = w.reserved }

pub credits_both : {d : ℕ → Bool} {b : Book} {l : Plain} → Inv d b l → (p : ℕ) → p < 16 → is_some (place_at b p) ≡ true → (m k : ℕ)
    → k ≡ m + coming d b p → total b + m < limit + credits (place_record b p).balance
    → SetBoth d b l p (set_balance (place_record b p) (whole_amount m)) (holds (l p) k)
credits_both {d} {b} {l} v p low here m k up room =
    set_both v p low here (set_balance (place_record b p) (whole_amount m)) (credits_whole (place_record b p) m (whole_is v p low here)) refl (holds (l p) k)
    (rw (plain_is v p low here, val_halves m, up)) (rw (val_halves m) (omega (arith, room)))
