-- DEMAND 3, proved: the claim of specs/Claim over every accepted start and every list of steps.
use mathlib.Core.Path.{◌≡◌, refl, sym, ap, ◌∙◌, subst, fun_ext}
use mathlib.Core.Logic.{◌≢◌}
use mathlib.Core.Bool.{Bool, true, false, cond}
use mathlib.Core.Option.{Option, some, none}
use mathlib.Core.List.{List, [], ◌∷◌}
use Prim.Native.Nat.{ℕ, ◌+◌, zero-le}
use native.Mathlib.Nat.{add-zero}
use native.Mathlib.Decide.{ℕ_discrete}
use native.Mathlib.Omega.{arith}
use lib.Dec.{eqb, ltb, lit<}
use lib.ListN.{length, take, replicate}
use borrow.Author.Tests.{eq-eqb, ne_eqb, eqb-true, eqb-false, ltb-false}
use Rattle.amount.specs.Numbers.{limit}
use Rattle.sheet.specs.Fields.{unit}
use Rattle.registry.specs.declared.error.ProfileError.TheVariants.{Empty}
use Rattle.sheet.specs.Walk.{every}
use Rattle.book.specs.Sets.{bit, with_bit, occurrences}
use Rattle.book.specs.Book.{name_bytes, name_of, blank_place, blank_transfer, blank_book, no_place, no_transfer, place_record, transfer_record, place_at, transfer_at, stock_of, carried_by, stocks, credits_under_way, total, name_ok, set_unit, scales_ok, set_record, set_transfer}
use Rattle.book.specs.Steps.{Step, Open, Act, Begin, Finish, Cancel, Close, Route, Way, Begins, Ends, Stays, way, refused_if, first_refusal, tests_of, seen, answer, effect, next, start_answer, start_book}
use Rattle.book.specs.Plain.{Holding, Plain, empty_plain, stock, plain_total, plain_answer, plain_effect, plain_next}
use Rattle.book.specs.Claim.{run, accepted_of, turned, cancelled, left_out, rebuilt, plain_run, PlainAccepts, issued, taken, route, routes_under_way, cell_at, EachOnce, Sound, Settled, Claim}
use Rattle.book.specs.declared.Name.{Name}
use Rattle.book.specs.declared.Book.{Book}
use Rattle.book.specs.declared.error.BookError.{BookError}
use Rattle.book.specs.declared.error.BookError.TheVariants.{Profile, LongName}
use Rattle.book.specs.Refusals.{BookOutcome}
use Rattle.book.proofs.Tables.{bit_lt, bit_same, bit_other, bit_high, bits_zero, entry_out, sum_zero, every_at}
use Rattle.book.proofs.Names.{name_bytes_lem, name_ok_lem}
use Rattle.book.proofs.Facts.{passed, unmet, accepted_tests}
use Rattle.book.proofs.Formed.{whole}
use Rattle.book.proofs.Views.{Shape, passes_28, none_coming}
use Rattle.book.proofs.Orders.{members, an_order}
use Rattle.book.proofs.Invariant.{Inv, Kept, credited, holding}
use Rattle.book.proofs.Opens.{kept_open}
use Rattle.book.proofs.Acts.{kept_act}
use Rattle.book.proofs.Begins.{kept_begin}
use Rattle.book.proofs.Finishes.{kept_finish, kept_cancel, finishable}
use Rattle.book.proofs.Closes.{kept_close}
use Rattle.std.specs.Prelude.{Ok, Err}

-- ---- one step: a case for each kind

-- d: the fates after it
pub kept : (b : Book) (l : Plain) (s : Step) (d : ℕ → Bool) → Inv (turned (way s) d) b l → answer b s ≡ Ok tt → Kept d b l s
kept b l s d v h = go s v (accepted_tests b s h).1
  where
    go : (s : Step) → Inv (turned (way s) d) b l → first_refusal (tests_of (seen b) s) ≡ Ok tt → Kept d b l s
    go (Open p i) w t = kept_open b l p i d w t
    go (Act p o i) w t = kept_act b l p o i d w t
    go (Begin f g n i) w t = kept_begin b l f g n i d w t
    go (Finish n) w t = kept_finish b l n d w t
    go (Cancel n) w t = kept_cancel b l n d w t
    go (Close p) w t = kept_close b l p d w t

-- ---- every list

pub next_accepted : (b : Book) (s : Step) → answer b s ≡ Ok tt → next b s ≡ effect b s
unfolding next
next_accepted b s h = rw h

next_refused : (b : Book) (s : Step) {e : BookError} → answer b s ≡ Err e → next b s ≡ b
unfolding next
next_refused b s h = rw h

plain_accepted : (u : List ℕ) (l : Plain) (s : Step) → plain_answer u l s ≡ Ok tt → plain_next u l s ≡ plain_effect l s
unfolding plain_next
plain_accepted u l s h = rw h

abbrev routes_of : Book → ℕ → Option Route
routes_of b t = route (transfer_at b t)

-- what a list keeps, from a book b of the unit u with its plain book l
record Lists (u : List ℕ) (b : Book) (l : Plain) (ss : List Step) : Type 0 where
  inv : Inv (cancelled []) (run b ss) (plain_run u l (rebuilt (accepted_of b ss)))
  plain : PlainAccepts u l (rebuilt (accepted_of b ss))
  moved : total (run b ss) + taken (accepted_of b ss) ≡ total b + issued (accepted_of b ss)
  routes : routes_of (run b ss) ≡ routes_under_way (routes_of b) (accepted_of b ss)

-- the plain book, fed a step or not
fed_run : (x : Bool) (u : List ℕ) (l : Plain) (s : Step) (a : List Step) (P : Plain → Type 0) → (x ≡ false → plain_answer u l s ≡ Ok tt)
    → P (plain_run u (cond x l (plain_effect l s)) a) → P (plain_run u l (cond x a (s ∷ a)))
fed_run true u l s a P h z = z
fed_run false u l s a P h z = subst (λ (m : Plain). P (plain_run u m a)) (sym (plain_accepted u l s (h refl))) z

fed_accepts : (x : Bool) (u : List ℕ) (l : Plain) (s : Step) (a : List Step) → (x ≡ false → plain_answer u l s ≡ Ok tt)
    → PlainAccepts u (cond x l (plain_effect l s)) a → PlainAccepts u l (cond x a (s ∷ a))
fed_accepts true u l s a h z = z
fed_accepts false u l s a h z = (h refl, subst (λ (m : Plain). PlainAccepts u m a) (sym (plain_accepted u l s (h refl))) z)

-- the fates before the list are those that it brings; after it, all that is under way is to be finished
lists : (ss : List Step) (u : List ℕ) (b : Book) (l : Plain) → name_bytes b.unit ≡ u → Inv (cancelled (accepted_of b ss)) b l → Lists u b l ss
lists [] u b l z v = record { inv = v; plain = tt; moved = refl; routes = refl }
lists (s ∷ ss) u b l z v = go (answer b s) refl (λ m y w. lists ss u (next b s) m y w)
  where
    a : List Step
    a = accepted_of (next b s) ss

    go : (x : BookOutcome) → answer b s ≡ x → ((m : Plain) → name_bytes (next b s).unit ≡ u → Inv (cancelled a) (next b s) m → Lists u (next b s) m ss)
        → Lists u b l (s ∷ ss)
    go (Err r) h rest =
        let e : next b s ≡ b = next_refused b s h in
        let w : Inv (cancelled a) b l = rw h at v in
        let r = rest l (ap (λ (c : Book). name_bytes c.unit) e ∙ z) (subst (λ (c : Book). Inv (cancelled a) c l) (sym e) w) in
        record {
          inv = rw h r.inv;
          plain = rw h r.plain;
          moved = rw h (omega (arith, r.moved, ap total e));
          routes = rw h (r.routes ∙ ap (λ (c : Book). routes_under_way (routes_of c) a) e);
        }
    go (Ok _) h rest =
        let k = kept b l s (cancelled a) (rw h at v) h in
        let e : next b s ≡ effect b s = next_accepted b s h in
        let x : Bool = left_out (way s) (cancelled a) in
        let p : x ≡ false → plain_answer u l s ≡ Ok tt = λ q. subst (λ (n : List ℕ). plain_answer n l s ≡ Ok tt) z (k.plain q) in
        let r = rest (cond x l (plain_effect l s)) (ap (λ (c : Book). name_bytes c.unit) e ∙ ap name_bytes k.unit ∙ z)
        (subst (λ (c : Book). Inv (cancelled a) c (cond x l (plain_effect l s))) (sym e) k.inv) in
        record {
          inv = rw h (fed_run x u l s (rebuilt a) (λ m. Inv (cancelled []) (run (next b s) ss) m) p r.inv);
          plain = rw h (fed_accepts x u l s (rebuilt a) p r.plain);
          moved = rw h (omega (arith, k.moved, r.moved, ap total e));
          routes = rw h (r.routes ∙ ap (λ (m : ℕ → Option Route). routes_under_way m a) (ap routes_of e ∙ fun_ext k.routes));
        }

-- ---- a fresh book

bit_zero : (p : ℕ) → bit 0 p ≡ 0
bit_zero p = bit_high 0 0 p (omega arith) zero-le

blank_shape : (n : Name) → Shape (set_unit blank_book n)
unfolding every place_record transfer_record blank_book blank_place blank_transfer
blank_shape n =
    record {
      places =
          record {
            size = refl;
            range = lit< tt;
            wholes = λ p k. whole _ (every_at (λ q. scales_ok (place_record (set_unit blank_book n) q)) 16 refl p k);
          };
      transfers =
          record {
            size = refl;
            range = lit< tt;
            wholes = λ t k. eqb-true _ 0 (every_at (λ q. eqb (transfer_record (set_unit blank_book n) q).amount.scale 0) 8 refl t k);
          };
    }

module _ (u : List ℕ) (h : start_answer u ≡ Ok tt) where
  fresh : start_book u ≡ set_unit blank_book (name_of u)
  unfolding start_book
  fresh = rw h

  unit_fresh : name_bytes (start_book u).unit ≡ u
  unit_fresh = rw fresh (name_bytes_lem u)

  unit_ok : name_ok (name_of u) ≡ true
  unfolding start_answer
  unit_ok =
      let t = passed (refused_if (eqb (length u) 0) (Profile (Empty unit)) ∷ refused_if (ltb 32 (length u)) (LongName unit) ∷ []) h in
      let n : length u ≢ 0 = eqb-false (length u) 0 (unmet (eqb (length u) 0) (Profile (Empty unit)) t.0) in
      name_ok_lem u (omega arith) (ltb-false 32 (length u) (unmet (ltb 32 (length u)) (LongName unit) t.1.0))

  no_place_lem : (p : ℕ) → place_at (start_book u) p ≡ none
  unfolding place_at blank_book
  no_place_lem p = rw fresh (entry_out no_place 0 (replicate 16 blank_place) p (bit_zero p))

  no_transfer_lem : (t : ℕ) → transfer_at (start_book u) t ≡ none
  unfolding transfer_at blank_book
  no_transfer_lem t = rw fresh (entry_out no_transfer 0 (replicate 8 blank_transfer) t (bit_zero t))

  total_fresh : total (start_book u) ≡ 0
  unfolding total stocks credits_under_way
  total_fresh =
      omega (
        arith,
        sum_zero (λ p. stock_of (place_at (start_book u) p)) 16 (λ p k. ap stock_of (no_place_lem p)),
        sum_zero (λ t. carried_by (transfer_at (start_book u) t)) 8 (λ t k. ap carried_by (no_transfer_lem t)),
      )

  start : (d : ℕ → Bool) → Inv d (start_book u) empty_plain
  unfolding limit empty_plain plain_total
  start d =
      record {
        good =
            record {
              shape = rw fresh (blank_shape (name_of u));
              unit = rw fresh unit_ok;
              places = λ p k. rw (no_place_lem p);
              transfers = λ t k. rw (no_transfer_lem t);
            };
        fits = rw total_fresh (lit< tt);
        sums = sum_zero (λ p. stock (empty_plain p)) 16 (λ p k. refl) ∙ sym total_fresh;
        matches = λ p k. rw (no_place_lem p);
      }

-- ---- finishing, in any order

freed : (b : Book) (t : ℕ) → (effect b (Finish t)).pending ≡ with_bit b.pending t 0
unfolding set_transfer set_record
freed b t = refl

count_head : (t : ℕ) (ts : List ℕ) → occurrences t (t ∷ ts) ≡ 1 + occurrences t ts
unfolding occurrences
count_head t ts = rw (eq-eqb t t refl)

count_other : (s t : ℕ) (ts : List ℕ) → s ≢ t → occurrences s (t ∷ ts) ≡ occurrences s ts
unfolding occurrences
count_other s t ts d = rw (ne_eqb s t d) (omega arith)

count_nil : (t : ℕ) → occurrences t [] ≡ 0
unfolding occurrences
count_nil t = refl

-- the first of an order is under way, and the rest is an order of what is then left
first_pending : (b : Book) (t : ℕ) (ts : List ℕ) → EachOnce b (t ∷ ts) → bit b.pending t ≡ 1
first_pending b t ts o = omega (arith, o t, count_head t ts, bit_lt b.pending t)

rest_once : (b : Book) (t : ℕ) (ts : List ℕ) → EachOnce b (t ∷ ts) → EachOnce (effect b (Finish t)) ts
rest_once b t ts o s = rw (freed b t) (go (ℕ_discrete s t))
  where
    go : Dec (s ≡ t) → occurrences s ts ≡ bit (with_bit b.pending t 0) s
    go (yes e) = rw e (omega (arith, o t, count_head t ts, bit_lt b.pending t, bit_same b.pending t 0 (lit< tt)))
    go (no d) = omega (arith, o s, count_other s t ts d, bit_other b.pending t s 0 (lit< tt) d)

uncredited : (o : Option Holding) → credited 0 o ≡ o
uncredited none = refl
uncredited (some h) = ap (holding h) (add-zero h.balance)

-- an end that is no cancel turns no fate, where none goes back
still : (back : Bool) (t : ℕ) → back ≡ false → turned (Ends t back) (cancelled []) ≡ cancelled []
still back t h = rw h (fun_ext (λ s. go (eqb s t)))
  where
    go : (x : Bool) → cond x false false ≡ false
    go true = refl
    go false = refl

settle : (order : List ℕ) (b : Book) (l : Plain) → Inv (cancelled []) b l → EachOnce b order → Settled b l order
settle [] b l v o =
    record {
      finished = tt;
      none_left = bits_zero 8 b.pending v.good.shape.transfers.range idle;
      same = λ p k. sym (v.matches p k ∙ rw (none_coming (cancelled []) b idle p) (uncredited (cell_at b p)));
    }
  where
    idle : (t : ℕ) → bit b.pending t ≡ 0
    idle t = sym (o t) ∙ count_nil t
settle (t ∷ ts) b l v o =
    let h : answer b (Finish t) ≡ Ok tt = (finishable (cancelled []) b l v t (first_pending b t ts o)).0 in
    let e : next b (Finish t) ≡ effect b (Finish t) = next_accepted b (Finish t) h in
    let k : Kept (cancelled []) b l (Finish t) = kept b l (Finish t) (cancelled []) (subst (λ (d : ℕ → Bool). Inv d b l) (sym (still false t refl)) v) h in
    let u : Settled (next b (Finish t)) l ts = settle ts (next b (Finish t)) l (rw e k.inv) (rw e (rest_once b t ts o)) in
    record { finished = (h, u.finished); none_left = u.none_left; same = u.same }

-- ---- the whole

from_start : (u : List ℕ) → start_answer u ≡ Ok tt → (ss : List Step) → Lists u (start_book u) empty_plain ss
from_start u h ss = lists ss u (start_book u) empty_plain (unit_fresh u h) (start u h _)

pub demand3 : Claim
demand3 u h steps =
    record {
      throughout = λ n. sound (take n steps);
      plain_accepts = (from_start u h steps).plain;
      settles = λ order o. settle order (run (start_book u) steps) _ (from_start u h steps).inv o;
    }
  where
    sound : (ss : List Step) → Sound (run (start_book u) ss) (accepted_of (start_book u) ss)
    sound ss =
        let k = from_start u h ss in
        record {
          conserved = omega (arith, k.moved, total_fresh u h);
          under_way = λ t.
              ap (λ (m : ℕ → Option Route). m t)
              (k.routes ∙ ap (λ (m : ℕ → Option Route). routes_under_way m (accepted_of (start_book u) ss)) (fun_ext (λ s. ap route (no_transfer_lem u h s))));
          finishable = λ t m. (finishable (cancelled []) (run (start_book u) ss) _ k.inv t m).0;
          cancellable = λ t m. (finishable (cancelled []) (run (start_book u) ss) _ k.inv t m).1;
          well_formed = passes_28 (run (start_book u) ss) k.inv.good k.inv.fits;
        }

-- every book of a run has a book's shape
pub in_shape : (u : List ℕ) → start_answer u ≡ Ok tt → (steps : List Step) → Shape (run (start_book u) steps)
in_shape u h steps = (from_start u h steps).inv.good.shape

-- there is an order of finishing: the claim on orders is not empty
pub some_order : (u : List ℕ) → start_answer u ≡ Ok tt → (steps : List Step)
    → EachOnce (run (start_book u) steps) (members (run (start_book u) steps).pending 8)
some_order u h steps = an_order (run (start_book u) steps) (in_shape u h steps)

-- ---- lists without cancels: the plain book is fed all the accepted steps, as document 01 says

abbrev goes_back : Way → Bool
goes_back (Begins t r) = false
goes_back (Ends t back) = back
goes_back Stays = false

abbrev pub NoCancel : List Step → Type 0
NoCancel [] = Unit {0}
NoCancel (s ∷ ss) = (goes_back (way s) ≡ false) × NoCancel ss

none_back : (w : Way) → goes_back w ≡ false → (turned w (cancelled []) ≡ cancelled []) × (left_out w (cancelled []) ≡ false)
none_back (Begins t r) h = (refl, refl)
none_back (Ends t back) h = (still back t h, h)
none_back Stays h = (refl, refl)

none_cancelled : (ss : List Step) → NoCancel ss → cancelled ss ≡ cancelled []
none_cancelled [] h = refl
none_cancelled (s ∷ ss) h = ap (turned (way s)) (none_cancelled ss h.1) ∙ (none_back (way s) h.0).0

pub rebuilt_whole : (ss : List Step) → NoCancel ss → rebuilt ss ≡ ss
rebuilt_whole [] h = refl
rebuilt_whole (s ∷ ss) h = rw (none_cancelled ss h.1, (none_back (way s) h.0).1, rebuilt_whole ss h.1)
