-- The listing as a whole: the text of a session's run is the session's, and what a buffer holds after it.
use mathlib.Core.Path.{◌≡◌, refl, ap, ◌∙◌}
use mathlib.Core.Bool.{Bool, true, false, cond}
use mathlib.Core.List.{List, ◌++◌}
use Prim.{absurd}
use Prim.Native.Nat.{ℕ, ◌≤◌, ◌<◌}
use native.Mathlib.Nat.{zero-add}
use native.Mathlib.Omega.{arith}
use lib.Dec.{leb}
use lib.ListN.{length, take}
use lib.Seq.{sets, sets-eq, take-append_seam}
use borrow.Author.Tests.{le-leb, lt-leb, leb-true, eq-eqb, ne_eqb}
use Rattle.writer.specs.Encode.{put_into}
use Rattle.book.specs.Book.{is_well_formed}
use Rattle.session.specs.Session.{good, answers_of, book_of, run_of}
use Rattle.session.specs.declared.StepAnswer.{StepAnswer}
use Rattle.session.specs.declared.Run.{Run}
use Rattle.session.proofs.Walking.{good_count}
use Rattle.session.proofs.Standing.{count_answers}
use Rattle.session.proofs.Theorems.{good_run_is, bad_does_nothing, book_fits}
use Rattle.report.specs.Listing.{step_lines, place_lines, last_line, bad_text, listing_text, listing_of, length_in}
use Rattle.report.specs.Writing.{run_text}

-- ---- a session and its run

module _ (r : Run) where
  pub bad_text_lem : (r.number ≡ 0 → ⊥) → bad_text ≡ run_text r
  unfolding run_text
  bad_text_lem h = rw (ne_eqb r.number 0 h)

  pub good_text : r.number ≡ 0 → step_lines 1 (take r.count r.steps) ++ place_lines r.book 16 ++ last_line r.book ≡ run_text r
  unfolding run_text listing_text
  good_text h = rw (eq-eqb r.number 0 h)

module _ (s : List ℕ) where
  text_case : (t : Bool) → good s ≡ t → run_text (run_of s) ≡ listing_of s
  unfolding run_text listing_of
  text_case true h = rw (good_run_is s h, h) (ap (λ (l : List StepAnswer). listing_text l (book_of s)) (take-append_seam (answers_of s) _))
  text_case false h = rw (bad_does_nothing s h, h)

  pub run_text_lem : run_text (run_of s) ≡ listing_of s
  run_text_lem = text_case (good s) refl

  fits_case : (t : Bool) → good s ≡ t → (run_of s).number ≡ 0 → ((run_of s).count ≤ 255) × (is_well_formed (run_of s).book ≡ true)
  fits_case true h n = rw (good_run_is s h) (omega (arith, count_answers s h, (good_count s h).1), (book_fits s h).0)
  fits_case false h n = let z : ◌≡◌ {A = ℕ} 2 0 = rw (bad_does_nothing s h) at n in absurd (omega arith)

  -- at most 255 steps were done, on a book that passes test 28
  pub run_fits : (run_of s).number ≡ 0 → ((run_of s).count ≤ 255) × (is_well_formed (run_of s).book ≡ true)
  run_fits = fits_case (good s) refl

-- ---- the buffer

pub too_short : (w old : List ℕ) → length old < length w → (0 ≡ length_in w old) × (old ≡ put_into w old)
unfolding length_in put_into
too_short w old h = rw (lt-leb (length w) (length old) h) (refl, refl)

pub all_fits : (w old new : List ℕ) (r : ℕ) → length w ≤ length old → r ≡ length w → new ≡ sets old 0 w → (r ≡ length_in w old) × (new ≡ put_into w old)
unfolding length_in put_into
all_fits w old new r h behind bytes =
    rw (le-leb (length w) (length old) h) (behind, bytes ∙ sets-eq w old 0 (omega arith) ∙ rw zero-add)

-- a caller may read as many bytes as it is told
in_case : (t : Bool) (w old : List ℕ) → leb (length w) (length old) ≡ t → cond t (length w) 0 ≤ length old
in_case true w old h = leb-true (length w) (length old) h
in_case false w old h = omega arith

pub length_in_lem : (w old : List ℕ) (r : ℕ) → r ≡ length_in w old → r ≤ length old
unfolding length_in
length_in_lem w old r e = rw e (in_case (leb (length w) (length old)) w old refl)
