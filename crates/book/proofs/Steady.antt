-- One step on ANY book that passes 28, come from wherever: it still passes 28, and the total moves by what an accepted step issues and takes.
-- The plain book of such a book has at each place what the book has there and what is coming to it.
use mathlib.Core.Path.{◌≡◌, refl, sym, ap, ◌∙◌}
use mathlib.Core.Logic.{◌≢◌}
use mathlib.Core.Bool.{Bool, true}
use mathlib.Core.Option.{Option, some, none}
use mathlib.Core.List.{List, []}
use Prim.Native.Nat.{ℕ, zero, suc, ◌+◌, ◌<◌}
use native.Mathlib.Omega.{arith}
use Rattle.amount.specs.Numbers.{limit}
use Rattle.sheet.specs.Walk.{sum}
use Rattle.book.specs.Book.{place_at, transfer_at, stock_of, carried_by, stocks, credits_under_way, total, is_some, transfer_ok, is_well_formed}
use Rattle.book.specs.Steps.{Step, Act, Cancel, Close, doing, flow, Neither, inflow, outflow, way, answer, effect, next}
use Rattle.book.specs.Plain.{Plain, stock, plain_total}
use Rattle.book.specs.Claim.{keep, issued, taken, turned, cancelled, shown, cell_at}
use Rattle.book.specs.declared.Place.{Place}
use Rattle.book.specs.declared.Transfer.{Transfer}
use Rattle.book.specs.declared.Book.{Book}
use Rattle.book.specs.Refusals.{BookOutcome}
use Rattle.book.proofs.Tables.{sum_same, sum_zero, sum_altered}
use Rattle.book.proofs.Facts.{accepted_tests}
use Rattle.book.proofs.Formed.{formed}
use Rattle.book.proofs.Views.{Shape, Good, passes_28, home, home_open, open_lt, toward, toward_none, toward_hit, toward_miss, coming, coming_closed}
use Rattle.book.proofs.Invariant.{Inv, Kept, credited}
use Rattle.book.proofs.Whole.{kept}
use Rattle.std.specs.Prelude.{Ok, Err}

-- ---- sums

sum_add : (f g : ℕ → ℕ) (n : ℕ) → sum (λ i. f i + g i) n ≡ sum f n + sum g n
unfolding sum
sum_add f g zero = refl
sum_add f g (suc n) = omega (arith, sum_add f g n)

sum_swap : (f : ℕ → ℕ → ℕ) (n m : ℕ) → sum (λ p. sum (f p) m) n ≡ sum (λ t. sum (λ p. f p t) n) m
unfolding sum
sum_swap f zero m = sym (sum_zero (λ t. sum (λ p. f p t) 0) m (λ i k. refl))
sum_swap f (suc n) m = ap (λ (z : ℕ). z + sum (f n) m) (sum_swap f n m) ∙ sym (sum_add (λ t. sum (λ p. f p t) n) (f n) m)

-- one term alone is not 0
sum_single : (f : ℕ → ℕ) (p n : ℕ) → p < n → ((q : ℕ) → q ≢ p → f q ≡ 0) → sum f n ≡ f p
sum_single f p n h k =
    omega (arith, sum_altered {f = λ q. 0} {g = f} (record { there = refl; elsewhere = k }) n h, sum_zero (λ q. 0) n (λ i l. refl))

-- ---- the plain book of a book

module _ (d : ℕ → Bool) (b : Book) (g : Good b) where
  abbrev plain_of : Plain
  plain_of p = credited (coming d b p) (cell_at b p)

  -- a transfer's credits are coming to one place
  whole_carried : (back : Bool) (o : Option Transfer) → transfer_ok b o ≡ true → sum (λ p. toward back p o) 16 ≡ carried_by o
  whole_carried back none h = sum_zero (λ p. toward back p none) 16 (λ p k. toward_none back p)
  whole_carried back (some r) h =
      sum_single (λ p. toward back p (some r)) (home back r) 16 (open_lt b g.shape.places.range (home back r) (home_open b r back h))
      (λ q x. toward_miss back q r (λ e. x (sym e)))
      ∙ toward_hit back (home back r) r refl

  all_coming : sum (coming d b) 16 ≡ credits_under_way b
  unfolding coming credits_under_way
  all_coming =
      sum_swap (λ p t. toward (d t) p (transfer_at b t)) 16 8
      ∙ sum_same (λ t. carried_by (transfer_at b t)) (λ t. sum (λ p. toward (d t) p (transfer_at b t)) 16) 8
      (λ t k. whole_carried (d t) (transfer_at b t) (g.transfers t k))

  stock_is : (p : ℕ) → stock (plain_of p) ≡ stock_of (place_at b p) + coming d b p
  stock_is p = go (place_at b p) refl
    where
      go : (o : Option Place) → place_at b p ≡ o → stock (credited (coming d b p) (shown o)) ≡ stock_of o + coming d b p
      go none e = let z = coming_closed d b g p (ap is_some e) in omega (arith, z)
      go (some x) e = omega arith

  sums_is : plain_total plain_of ≡ total b
  unfolding plain_total total stocks
  sums_is =
      sum_same (λ p. stock_of (place_at b p) + coming d b p) (λ p. stock (plain_of p)) 16 (λ p k. stock_is p)
      ∙ sum_add (λ p. stock_of (place_at b p)) (coming d b) 16
      ∙ ap (λ (z : ℕ). stocks b + z) all_coming

  has_plain : total b < limit → Inv d b plain_of
  has_plain f = record { good = g; fits = f; sums = sums_is; matches = λ p k. refl }

-- ---- one step

-- a book that passes 28
pub record Steady (b : Book) : Type 0 where
  pub shape : Shape b
  pub formed : is_well_formed b ≡ true

-- from b to c by a step that answered o
pub record Stepped (b c : Book) (o : BookOutcome) (s : Step) : Type 0 where
  pub steady : Steady c
  pub moved : total c + taken (keep o s []) ≡ total b + issued (keep o s [])

module _ (b : Book) (s : Step) (x : Steady b) where
  abbrev its_good : Good b
  its_good =
      let f = formed b x.formed in record { shape = x.shape; unit = f.unit; places = f.places; transfers = f.transfers }

  -- the fates before the step, if all that is under way after it is to be finished
  abbrev its_fates : ℕ → Bool
  its_fates = turned (way s) (cancelled [])

  its_kept : answer b s ≡ Ok tt → Kept (cancelled []) b (plain_of its_fates b its_good) s
  its_kept h = kept b (plain_of its_fates b its_good) s (cancelled []) (has_plain its_fates b its_good (formed b x.formed).fits) h

  pub step_steady : Stepped b (next b s) (answer b s) s
  unfolding next
  step_steady = go (answer b s) refl
    where
      go : (o : BookOutcome) → answer b s ≡ o → Stepped b (next b s) (answer b s) s
      go (Ok _) h =
          let k = its_kept h in
          rw h (record {
            steady = record { shape = k.inv.good.shape; formed = passes_28 (effect b s) k.inv.good k.inv.fits };
            moved = omega (arith, k.moved);
          })
      go (Err e) h = rw h (record { steady = x; moved = refl })

-- a step that issues and takes nothing leaves the sum. Premise: the arrays and sets are of a book's size
neither_moves : (b : Book) (s : Step) → flow s ≡ Neither → Shape b → total (next b s) ≡ total b
unfolding next
neither_moves b s n x = go (answer b s) refl
  where
    go : (o : BookOutcome) → answer b s ≡ o → total (next b s) ≡ total b
    go (Ok _) h =
        let k = its_kept b s (record { shape = x; formed = (accepted_tests b s h).0 }) h in
        rw h (omega (arith, k.moved, ap inflow n, ap outflow n))
    go (Err e) h = rw h

-- document 02, request 1: "the sum over balances and credits under way is unchanged by it"
pub cancel_keeps_the_sum : (b : Book) (t : ℕ) → Shape b → total (next b (Cancel t)) ≡ total b
cancel_keeps_the_sum b t = neither_moves b (Cancel t) refl

-- request 2: "A close never strands credits"
pub close_keeps_the_sum : (b : Book) (p : ℕ) → Shape b → total (next b (Close p)) ≡ total b
close_keeps_the_sum b p = neither_moves b (Close p) refl

-- request 5, of reserve and release: "neither step issues or takes any more"
pub reserve_keeps_the_sum : (b : Book) (p : ℕ) (i : List ℕ) → Shape b → total (next b (Act p 16 i)) ≡ total b
unfolding doing
reserve_keeps_the_sum b p i = neither_moves b (Act p 16 i) refl

pub release_keeps_the_sum : (b : Book) (p : ℕ) (i : List ℕ) → Shape b → total (next b (Act p 17 i)) ≡ total b
unfolding doing
release_keeps_the_sum b p i = neither_moves b (Act p 17 i) refl
