-- Demand 1, of apply's and credit's answer and of the buffer lent to them: the number is 0 exactly where a state was made and its sheet fits; a
-- refusal alters no byte, and an acceptance only the first.
use mathlib.Core.Path.{◌≡◌, refl}
use mathlib.Core.Bool.{Bool, true, false, cond}
use mathlib.Core.List.{List}
use Prim.Native.Nat.{ℕ, ◌≤◌}
use native.Mathlib.Omega.{arith}
use lib.Dec.{leb}
use lib.ListN.{length, drop}
use lib.Seq.{drop-append_seam}
use borrow.Author.Tests.{leb-true, le-leb}
use Rattle.sheet.specs.Fields.{field}
use Rattle.registry.proofs.Words.{refusal_positive}
use Rattle.writer.specs.Encode.{put_into, put_answer, over}
use Rattle.resource_state.specs.Next.{sheet_of, Next}
use Rattle.resource_state.specs.declared.ResourceState.{ResourceState}
use Rattle.transition.specs.Written.{answer_to, buffer_after, put_of}
use Rattle.std.specs.Prelude.{Ok, Err, None, Some}

-- a state was made, and the buffer holds its sheet
pub record Fits (n : Next) (s i old : List ℕ) : Type 0 where
  pub state : ResourceState
  pub made : n ≡ Ok state
  pub fits : length (sheet_of (field s) (field i) state) ≤ length old

put_done : (t : Bool) (w : List ℕ) → (put_of (cond t (Some (length w)) None)).number ≡ 0 → t ≡ true
put_done true w h = refl
put_done false w h = absurd (omega arith)

pub zero_is_written : (n : Next) (s i old : List ℕ) → (answer_to n s i old).number ≡ 0 → Fits n s i old
unfolding answer_to put_answer
zero_is_written (Ok n) s i old h =
    let w : List ℕ = sheet_of (field s) (field i) n in
    record { state = n; made = refl; fits = leb-true (length w) (length old) (put_done (leb (length w) (length old)) w h) }
zero_is_written (Err e) s i old h = absurd (omega (arith, h, refusal_positive e))

pub written_is_zero : (n : Next) (s i old : List ℕ) → Fits n s i old → (answer_to n s i old).number ≡ 0
unfolding answer_to put_answer
written_is_zero n s i old f = rw (f.made, le-leb (length (sheet_of (field s) (field i) f.state)) (length old) f.fits)

put_kept : (t : Bool) (w old : List ℕ) → ((put_of (cond t (Some (length w)) None)).number ≡ 0 → ⊥) → cond t (over w old) old ≡ old
put_kept true w old h = absurd (h refl)
put_kept false w old h = refl

pub refusal_writes_nothing : (n : Next) (s i old : List ℕ) → ((answer_to n s i old).number ≡ 0 → ⊥) → buffer_after n s i old ≡ old
unfolding answer_to buffer_after put_answer put_into
refusal_writes_nothing (Ok n) s i old h = put_kept (leb (length (sheet_of (field s) (field i) n)) (length old)) (sheet_of (field s) (field i) n) old h
refusal_writes_nothing (Err e) s i old h = refl

put_first : (t : Bool) (w old : List ℕ) → (put_of (cond t (Some (length w)) None)).number ≡ 0
    → drop (put_of (cond t (Some (length w)) None)).length (cond t (over w old) old) ≡ drop (put_of (cond t (Some (length w)) None)).length old
put_first true w old h = drop-append_seam w (drop (length w) old)
put_first false w old h = absurd (omega arith)

pub acceptance_writes_the_first : (n : Next) (s i old : List ℕ) → (answer_to n s i old).number ≡ 0
    → drop (answer_to n s i old).length (buffer_after n s i old) ≡ drop (answer_to n s i old).length old
unfolding answer_to buffer_after put_answer put_into
acceptance_writes_the_first (Ok n) s i old h = put_first (leb (length (sheet_of (field s) (field i) n)) (length old)) (sheet_of (field s) (field i) n) old h
acceptance_writes_the_first (Err e) s i old h = absurd (omega (arith, h, refusal_positive e))
