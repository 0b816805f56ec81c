-- An accepted close keeps the invariant, and leaves no record.
use mathlib.Core.Path.{◌≡◌, refl, sym, ap, ◌∙◌}
use mathlib.Core.Bool.{Bool, true}
use mathlib.Core.Option.{none}
use mathlib.Core.List.{List}
use Prim.Native.Nat.{ℕ, ◌+◌}
use native.Mathlib.Omega.{arith}
use lib.ListN.{length}
use lib.Seq.{get_or-set_same}
use Rattle.book.specs.Book.{credits, name_bytes, blank_place, no_place, place_record, place_at, stock_of, total, is_some, close_place}
use Rattle.book.specs.Steps.{Close, seen, tests_close, first_refusal, answer, next}
use Rattle.book.specs.Plain.{Plain, stock, plain_seen, plain_answer, plain_put}
use Rattle.book.specs.Claim.{route, cell}
use Rattle.book.specs.declared.Book.{Book}
use Rattle.book.proofs.Tables.{Altered, entry_drop}
use Rattle.book.proofs.Facts.{follow, same, accepted_tests, Closes, closes, emptied}
use Rattle.book.proofs.Views.{PlaceSet, same_transfers, same_unit, closed_set, good_close, total_place, coming_unnamed, coming}
use Rattle.book.proofs.Invariant.{Inv, Kept, holding, view_there, place_is, plain_is, plain_put_lem, plain_total_lem, matches_place}
use Rattle.std.specs.Prelude.{Ok}

pub kept_close : (b : Book) (l : Plain) (p : ℕ) (d : ℕ → Bool) → Inv d b l → first_refusal (tests_close (seen b) p) ≡ Ok tt → Kept d b l (Close p)
unfolding seen plain_seen plain_answer tests_close
kept_close b l p d v t =
    record {
      inv =
          record {
            good = good_close b p f.unawaited e v.good;
            fits = omega (arith, unmoved, v.fits);
            sums = omega (arith, unmoved, plain_total_lem a f.low, nothing, v.sums);
            matches = matches_place d e a v.matches refl;
          };
      plain = λ _.
          follow (tests_close (seen b) p) (tests_close (plain_seen u l) p)
          (same, (λ _. rw there, (λ _. emptied (plain_seen u l) p nothing, (λ _. refl, tt)))) t;
      unit = same_unit e.others;
      moved = omega (arith, unmoved);
      routes = λ q. ap route (same_transfers e.others q);
    }
  where
    f : Closes (seen b) p
    f = closes (seen b) p t

    u : List ℕ
    u = name_bytes b.unit

    here : is_some (place_at b p) ≡ true
    here = sym (view_there u (place_at b p)) ∙ f.here

    there : l p ≡ holding (cell (place_record b p)) (credits (place_record b p).balance + coming d b p)
    there = plain_is v p f.low here

    -- in both books: what is coming to it is nothing too
    nothing : stock (l p) ≡ 0
    nothing = omega (arith, ap stock there, f.empty, ap stock_of (place_is v p f.low here), coming_unnamed b p f.unawaited d)

    e : PlaceSet b (close_place b p) p none
    e = closed_set b p v.good.shape f.low

    a : Altered l (plain_put l p none) p none
    a = plain_put_lem l p none

    unmoved : total (close_place b p) ≡ total b
    unmoved = omega (arith, total_place e f.low, f.empty)

-- Document 02, request 2: close "makes its record zeros", and the place is closed, so that an open does not meet 5. Premises: 16 places; the step
-- is accepted.
pub closed_is_zeros : (b : Book) (p : ℕ) → length b.places ≡ 16 → answer b (Close p) ≡ Ok tt
    → (place_record (next b (Close p)) p ≡ blank_place) × (place_at (next b (Close p)) p ≡ none)
unfolding next place_record place_at close_place
closed_is_zeros b p size h =
    let f : Closes (seen b) p = closes (seen b) p (accepted_tests b (Close p) h).1 in (
      rw h (get_or-set_same b.places p blank_place no_place (rw size f.low)),
      rw h (entry_drop no_place b.opened b.places p blank_place).there,
    )
