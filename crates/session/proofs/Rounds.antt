-- The loop that does the steps: what holds after j of them, and what is there at its end.
use mathlib.Core.Path.{◌≡◌, refl, sym, ap, ◌∙◌}
use mathlib.Core.Bool.{true}
use mathlib.Core.Option.{some}
use mathlib.Core.List.{List, [], ◌∷◌, ◌++◌, append_assoc}
use Prim.Native.Nat.{ℕ, suc, ◌+◌, ◌-◌, ◌<◌}
use native.Mathlib.Omega.{arith}
use lib.ListN.{length, set, replicate}
use lib.Seq.{set-append_seam}
use Rattle.std.specs.Prelude.{Option, Some, Ok, Err}
use Rattle.amount.specs.Numbers.{halves}
use Rattle.amount.specs.declared.uint128.Uint128.{Uint128}
use Rattle.book.specs.Book.{total}
use Rattle.book.specs.Refusals.{book_answer_of, book_refusal_of}
use Rattle.book.specs.Steps.{Step, answer, next}
use Rattle.book.specs.declared.Book.{Book}
use Rattle.book.specs.declared.error.BookError.{BookError}
use Rattle.book.proofs.Whole.{demand3}
use Rattle.audit.specs.Totals.{total_of}
use Rattle.steps.proofs.Turned.{next_kept}
use Rattle.session.specs.Session.{unit_of, step_at, good, brief, Stand, stand_after, answers_from, no_answer, filled, run_from, start_of}
use Rattle.session.specs.declared.StepAnswer.{StepAnswer}
use Rattle.session.specs.declared.Run.{Run}
use Rattle.session.proofs.Walking.{good_start}

-- after j steps from entry k on, begun at x: book and answers are theirs, the answers filled up with zeros, and n is the book's total
pub record Ran (s : List ℕ) (x : Stand) (k : ℕ) (b : Book) (n : Option Uint128) (l : List StepAnswer) (j : ℕ) : Type 0 where
  pub book : b ≡ (stand_after s x k j).book
  pub total : n ≡ total_of b
  pub answers : l ≡ answers_from s x k j ++ replicate (255 - j) no_answer

module _ (s : List ℕ) (x : Stand) (k : ℕ) where
  pub ran_none : {b : Book} {n : Option Uint128} → b ≡ x.book → n ≡ total_of x.book → Ran s x k b n (replicate 255 no_answer) 0
  unfolding stand_after answers_from
  ran_none e h = record { book = e; total = h ∙ ap total_of (sym e); answers = refl }

  -- one turn: entry k + j is the step z
  module _ {b : Book} {n : Option Uint128} {l : List StepAnswer} {j : ℕ} (r : Ran s x k b n l j) (len : length (answers_from s x k j) ≡ j) (low : j < 255)
      {z : Step} (z-is : step_at s (k + j) ≡ some z) where
    abbrev its : List StepAnswer
    its = answers_from s x k j

    answer-set : (a : StepAnswer) → set l j a ≡ its ++ (a ∷ replicate (255 - suc j) no_answer)
    answer-set a =
        let f : 255 - j ≡ suc (255 - suc j) = omega (arith, low) in
        let l-is : l ≡ its ++ (no_answer ∷ replicate (255 - suc j) no_answer) = r.answers ∙ rw f in
        ap (λ (q : List StepAnswer). set q j a) l-is
        ∙ ap (λ (p : ℕ). set (its ++ (no_answer ∷ replicate (255 - suc j) no_answer)) p a) (sym len)
        ∙ set-append_seam its no_answer (replicate (255 - suc j) no_answer) a

    ran_by : (a : StepAnswer) → a ≡ brief (book_answer_of (answer b z)) → {c : Book} → c ≡ next b z → {m : Option Uint128} → m ≡ total_of c → {q : List StepAnswer}
        → q ≡ its ++ (a ∷ replicate (255 - suc j) no_answer) → Ran s x k c m q (j + 1)
    unfolding stand_after answers_from
    ran_by a a-is {c} c-is {m} m-is {q} q-is =
        let i : j + 1 ≡ suc j = omega arith in
        rw i (record {
          book = c-is ∙ rw (z-is, r.book);
          total = m-is;
          answers = q-is ∙ sym (append_assoc its (a ∷ []) (replicate (255 - suc j) no_answer)) ∙ rw (z-is, a-is, r.book);
        })

    -- an accepted step leaves its answer as it was, zeros
    pub ran_done : Ok tt ≡ answer b z → {c : Book} → c ≡ next b z → {m : Option Uint128} → m ≡ total_of c → Ran s x k c m l (j + 1)
    ran_done yes· c-is m-is =
        let f : 255 - j ≡ suc (255 - suc j) = omega (arith, low) in
        ran_by no_answer (rw (← yes·)) c-is m-is (r.answers ∙ rw f)

    -- a refused one leaves the book as it was
    pub ran_refused : (e : BookError) → Err e ≡ answer b z → {c : Book} → c ≡ next b z → {a : StepAnswer} → a ≡ brief (book_refusal_of e) → Ran s x k c n (set l j a) (j + 1)
    ran_refused e nay {c} c-is {a} a-is =
        ran_by a (a-is ∙ ap (λ o. brief (book_answer_of o)) nay) c-is (r.total ∙ ap total_of (next_kept b z e nay ∙ sym c-is)) (answer-set a)

  pub ran_all : (r : Run) {n : Option Uint128} {j : ℕ} → Ran s x k r.book n r.steps j → length (answers_from s x k j) ≡ j → (m : ℕ) → j ≡ m
      → r.number ≡ 0 → r.count ≡ m → r ≡ run_from s x k m
  unfolding run_from filled
  ran_all r ran len m e no-number its-count =
      let f : length (answers_from s x k m) ≡ m = rw e at len in
      let l-is : r.steps ≡ answers_from s x k m ++ replicate (255 - m) no_answer = rw e at ran.answers in
      let b-is : r.book ≡ (stand_after s x k m).book = rw e at ran.book in
      (λ i. record { number = no-number i; count = its-count i; steps = r.steps; book = r.book }) ∙ rw (f, l-is, b-is)

-- ---- a fresh book passes 28, and its total is 0

pub fresh_total : (s : List ℕ) → good s ≡ true → Some (record { hi = 0; lo = 0 }) ≡ total_of (start_of s).book
unfolding total_of halves
fresh_total s g =
    let d = (demand3 (unit_of s) (good_start s g) []).throughout 0 in
    let e : total (start_of s).book ≡ 0 = omega (arith, d.conserved) in
    rw (d.well_formed, e)
