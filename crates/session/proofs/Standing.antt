-- Steps one after another: where m entries from entry k on leave the run, what they say, and that every later entry of a good session is
-- a step.
use mathlib.Core.Path.{◌≡◌, refl, sym, ap, ◌∙◌}
use mathlib.Core.Logic.{⊎_elim}
use mathlib.Core.Bool.{Bool, true, false, cond, false≢true}
use mathlib.Core.Option.{Option, some, none}
use mathlib.Core.List.{List, [], ◌∷◌, ◌++◌}
use Prim.Native.Nat.{ℕ, zero, suc, ◌+◌, ◌-◌, ◌≤◌, ◌<◌}
use native.Mathlib.Nat.{not-suc-le-zero, eq-or-lt_of_le, le_of_suc-le-suc}
use native.Mathlib.Omega.{arith}
use lib.Dec.{eqb}
use lib.ListN.{length, get_or, length-append, get_or-append}
use borrow.Author.Tests.{ne_eqb}
use Rattle.sheet.proofs.Tables.{and_right, all_at}
use Rattle.book.specs.Book.{is_some}
use Rattle.book.specs.Steps.{Step, next}
use Rattle.book.specs.Claim.{run}
use Rattle.book.specs.declared.Book.{Book}
use Rattle.session.specs.Session.{line_count, line_at, line_body_at, line_body, step_fits, line_fits_at, good, step_of, step_at, listed, steps_from, steps_of, said_by, Stand, stand_after, answers_from, start_of, answers_of, book_of, no_answer}
use Rattle.session.specs.Entries.{entry_step}
use Rattle.steps.specs.Turn.{with_sheet}
use Rattle.steps.specs.declared.step.Step.{Step as Kind}
use Rattle.std.specs.Prelude.{Some, None, IsSome}
use Rattle.std.specs.Prelude as std
use Rattle.session.specs.declared.Line.{Line}
use Rattle.session.specs.declared.StepAnswer.{StepAnswer}
use Rattle.session.proofs.Walking.{good_count, good_fits}

-- ---- every later entry of a good session is a step

-- a kind that fits has a step, and so has what follows it
arm : (t fits more : Bool) (x : Step) (y : Option Step) → (more ≡ true → is_some y ≡ true) → cond t fits more ≡ true → is_some (cond t (some x) y) ≡ true
arm true fits more x y k h = refl
arm false fits more x y k h = k h

-- an entry that fits is one
fits_step : (l : Line) (i : List ℕ) → step_fits l ≡ true → is_some (step_of l i) ≡ true
unfolding step_of
fits_step l i =
    arm (eqb l.kind 1) _ _ _ _
    (arm (eqb l.kind 2) _ _ _ _
    (arm (eqb l.kind 3) _ _ _ _
    (arm (eqb l.kind 4) _ _ _ _
    (arm (eqb l.kind 5) _ _ _ _
    (arm (eqb l.kind 6) _ _ _ _ (λ e. absurd (false≢true e)))))))

pub later_step : (s : List ℕ) → good s ≡ true → (k : ℕ) → 1 ≤ k → k < line_count s → is_some (step_at s k) ≡ true
later_step s g k h l =
    let d : eqb k 0 ≡ false = ne_eqb k 0 (λ e. absurd (omega (arith, e, h))) in
    let f = rw d at (all_at (line_fits_at s) k (line_count s) l (good_fits s g)) in
    fits_step (line_at s k) _ (and_right (eqb (line_at s k).offset (line_body_at s k)) (step_fits (line_at s k)) f)

-- what the code reads of entry k, l, as e
module _ (s : List ℕ) (k : ℕ) {l : Line} {e : std.Option Kind} (l-is : l ≡ line_at s k) (e-is : (i : List ℕ) → entry_step e i ≡ step_of l i) where
  pub read_step : {z : Kind} {d : List ℕ} → e ≡ Some z → d ≡ line_body s l → step_at s k ≡ some (with_sheet z d)
  read_step {z} {d} h d-is = rw (← l-is, ← d-is) (sym (e-is d) ∙ ap (λ (x : std.Option Kind). entry_step x d) h)

  never_none : good s ≡ true → 1 ≤ k → k < line_count s → e ≡ None → ⊥
  never_none g h m n =
      let i : List ℕ = line_body s (line_at s k) in
      let w : step_at s k ≡ none = rw l-is at (sym (e-is i) ∙ ap (λ (x : std.Option Kind). entry_step x i) n) in
      false≢true (ap is_some (sym w) ∙ later_step s g k h m)

pub is_read : (s : List ℕ) (k : ℕ) {l : Line} (e : std.Option Kind) → l ≡ line_at s k → ((i : List ℕ) → entry_step e i ≡ step_of l i) → good s ≡ true → 1 ≤ k → k < line_count s → IsSome e
is_read s k (Some z) l-is e-is g h m = refl
is_read s k None l-is e-is g h m = absurd (never_none s k l-is e-is g h m refl)

-- ---- one step after another

run_append : (l m : List Step) (b : Book) → run b (l ++ m) ≡ run (run b l) m
run_append [] m b = refl
run_append (x ∷ l) m b = run_append l m (next b x)

-- the book is that of the steps done
pub book_run : (s : List ℕ) (x : Stand) (k m : ℕ) → (stand_after s x k m).book ≡ run x.book (steps_from s k m)
unfolding stand_after steps_from
book_run s x k zero = refl
book_run s x k (suc m) =
    ap (λ (c : Book). run c (listed (step_at s (k + m)))) (book_run s x k m) ∙ sym (run_append (steps_from s k m) (listed (step_at s (k + m))) x.book)

-- ---- the answers

said_one : (b : Book) (o : Option Step) → is_some o ≡ true → length (said_by b o) ≡ 1
said_one b none h = absurd (false≢true h)
said_one b (some x) h = refl

-- the only one of a list, behind another list
get_last : {A : Type 0} (d : A) (l q : List A) → length q ≡ 1 → get_or (l ++ q) (length l) d ∷ [] ≡ q
get_last d [] [] h = absurd (omega (arith, h))
get_last d [] (x ∷ []) h = refl
get_last d [] (x ∷ y ∷ q) h = absurd (omega (arith, h))
get_last d (y ∷ l) q h = get_last d l q h

module _ (s : List ℕ) (g : good s ≡ true) (x : Stand) (k : ℕ) (later : 1 ≤ k) where
  -- what entry k + m says, one answer
  abbrev its : ℕ → List StepAnswer
  its m = said_by (stand_after s x k m).book (step_at s (k + m))

  its_one : (m : ℕ) → k + m < line_count s → length (its m) ≡ 1
  its_one m h = said_one (stand_after s x k m).book (step_at s (k + m)) (later_step s g (k + m) (omega (arith, later)) h)

  pub answers_length : (m : ℕ) → k + m ≤ line_count s → length (answers_from s x k m) ≡ m
  unfolding answers_from
  answers_length zero h = refl
  answers_length (suc m) h =
      omega (arith, length-append (answers_from s x k m) (its m), its_one m (omega (arith, h)), answers_length m (omega (arith, h)))

  -- each is its own step's, on the book as the ones before left it
  pub answer_at : (m i : ℕ) → k + m ≤ line_count s → i < m → get_or (answers_from s x k m) i no_answer ∷ [] ≡ its i
  unfolding answers_from
  answer_at zero i h l = absurd (not-suc-le-zero l)
  answer_at (suc m) i h l =
      let a : List StepAnswer = answers_from s x k m in
      let e : length a ≡ m = answers_length m (omega (arith, h)) in
      ⊎_elim
      (λ f. rw f (ap (λ (n : ℕ). get_or (a ++ its m) n no_answer ∷ []) (sym e) ∙ get_last no_answer a (its m) (its_one m (omega (arith, h)))))
      (λ j. ap (λ (y : StepAnswer). y ∷ []) (get_or-append a (its m) no_answer i (omega (arith, e, j))) ∙ answer_at m i (omega (arith, h)) j)
      (eq-or-lt_of_le (le_of_suc-le-suc l))

-- ---- a whole session

module _ (s : List ℕ) where
  pub book_of_steps : book_of s ≡ run (start_of s).book (steps_of s)
  unfolding book_of steps_of
  book_of_steps = book_run s (start_of s) 1 (line_count s - 1)

  pub count_answers : good s ≡ true → length (answers_of s) ≡ line_count s - 1
  unfolding answers_of
  count_answers g = answers_length s g (start_of s) 1 (omega arith) (line_count s - 1) (omega (arith, (good_count s g).0))
