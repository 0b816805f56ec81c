-- Demand 1, of the listing's buffer: the answer 0 is a buffer that is too short, and alters no byte of it; any other alters only the first.
use mathlib.Core.Path.{◌≡◌, refl}
use mathlib.Core.Bool.{Bool, true, false, cond}
use mathlib.Core.List.{List, ◌++◌}
use Prim.Native.Nat.{ℕ, ◌≤◌, ◌<◌}
use native.Mathlib.Omega.{arith}
use lib.Dec.{leb}
use lib.ListN.{length, drop, length-append}
use lib.Seq.{drop-append_seam}
use borrow.Author.Tests.{leb-false, lt-leb}
use Rattle.writer.specs.Encode.{over, put_into}
use Rattle.book.specs.declared.Book.{Book}
use Rattle.session.specs.Session.{good, answers_of, book_of}
use Rattle.session.specs.declared.StepAnswer.{StepAnswer}
use Rattle.report.specs.Listing.{bad_text, step_lines, place_lines, counts_text, last_line, listing_text, listing_of, length_in}

-- no listing is empty
append_some : (x y : List ℕ) → 1 ≤ length y → 1 ≤ length (x ++ y)
append_some x y h = rw (length-append x y) (omega (arith, h))

last_some : (b : Book) → 1 ≤ length (last_line b)
unfolding last_line counts_text
last_some b = omega arith

text_some : (l : List StepAnswer) (b : Book) → 1 ≤ length (listing_text l b)
unfolding listing_text
text_some l b = append_some (step_lines 1 l ++ place_lines b 16) (last_line b) (last_some b)

listing_some : (t : Bool) (l : List StepAnswer) (b : Book) → 1 ≤ length (cond t (listing_text l b) bad_text)
unfolding bad_text
listing_some true l b = text_some l b
listing_some false l b = omega arith

zero_short : (t : Bool) (w old : List ℕ) → leb (length w) (length old) ≡ t → 1 ≤ length w → cond t (length w) 0 ≡ 0 → length old < length w
zero_short true w old e h k = absurd (omega (arith, h, k))
zero_short false w old e h k = leb-false (length w) (length old) e

-- 0 is answered exactly where the buffer is too short
pub zero_is_too_short : (s old : List ℕ) → length_in (listing_of s) old ≡ 0 → length old < length (listing_of s)
unfolding listing_of length_in
zero_is_too_short s old =
    let w : List ℕ = cond (good s) (listing_text (answers_of s) (book_of s)) bad_text in
    zero_short (leb (length w) (length old)) w old refl (listing_some (good s) (answers_of s) (book_of s))

pub too_short_is_zero : (w old : List ℕ) → length old < length w → length_in w old ≡ 0
unfolding length_in
too_short_is_zero w old h = rw (lt-leb (length w) (length old) h)

-- and then nothing is written
pub refusal_writes_nothing : (w old : List ℕ) → length old < length w → put_into w old ≡ old
unfolding put_into
refusal_writes_nothing w old h = rw (lt-leb (length w) (length old) h)

put_first : (t : Bool) (w old : List ℕ) → drop (cond t (length w) 0) (cond t (over w old) old) ≡ drop (cond t (length w) 0) old
put_first true w old = drop-append_seam w (drop (length w) old)
put_first false w old = refl

-- all behind the answered length stays
pub acceptance_writes_the_first : (w old : List ℕ) → drop (length_in w old) (put_into w old) ≡ drop (length_in w old) old
unfolding length_in put_into
acceptance_writes_the_first w old = put_first (leb (length w) (length old)) w old
