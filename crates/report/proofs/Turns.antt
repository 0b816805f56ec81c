-- Laws of the lines: one answer more, one place more.
use mathlib.Core.Path.{◌≡◌, sym, ap, ◌∙◌}
use mathlib.Core.List.{List, [], ◌∷◌, ◌++◌, append_assoc, append-nil}
use mathlib.Core.Bool.{true, false}
use mathlib.Core.Option.{some}
use Prim.{absurd}
use Prim.Native.Nat.{ℕ, zero, suc, ◌+◌, ◌<◌}
use native.Mathlib.Nat.{not-suc-le-zero, le_of_suc-le-suc}
use native.Mathlib.Omega.{arith}
use lib.ListN.{length, take, get_or}
use Rattle.book.specs.Sets.{has, entry}
use Rattle.book.specs.Book.{place_at, no_place}
use Rattle.book.specs.declared.Book.{Book}
use Rattle.session.specs.declared.StepAnswer.{StepAnswer}
use Rattle.report.specs.Listing.{step_line, step_lines, place_line, place_lines}

pub step_more : (k i : ℕ) (l : List StepAnswer) (d : StepAnswer) → i < length l
    → step_lines k (take i l) ++ step_line (i + k) (get_or l i d) ≡ step_lines k (take (suc i) l)
unfolding step_lines
step_more k i [] d h = absurd (not-suc-le-zero h)
step_more k zero (a ∷ l) d h = let e : 0 + k ≡ k = omega arith in rw e (sym (append-nil (step_line k a)))
step_more k (suc i) (a ∷ l) d h =
    let e : suc i + k ≡ i + suc k = omega arith in
    rw e (append_assoc (step_line k a) _ _ ∙ ap (λ (r : List ℕ). step_line k a ++ r) (step_more (suc k) i l d (le_of_suc-le-suc h)))

-- one place more, which is open or closed
module _ (b : Book) (i : ℕ) where
  pub open_more : has b.opened i ≡ true → place_lines b i ++ place_line i (some (get_or b.places i no_place)) ≡ place_lines b (suc i)
  unfolding place_lines place_at entry
  open_more e = rw e

  pub closed_more : has b.opened i ≡ false → place_lines b i ≡ place_lines b (suc i)
  unfolding place_lines place_line place_at entry
  closed_more e = rw e (sym (append-nil (place_lines b i)))
