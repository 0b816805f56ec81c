-- A finish and a cancel: the step that ends a transfer, and what its acceptance tells. The credits land at one of the transfer's ends.
use mathlib.Core.Path.{◌≡◌, refl, ◌∙◌}
use mathlib.Core.Bool.{Bool, true, false}
use Prim.Native.Nat.{ℕ}
use Rattle.book.specs.Book.{transfer_record, place_at, is_some, is_well_formed}
use Rattle.book.specs.Steps.{Step, Finish, Cancel, seen, tests_finish, first_refusal, answer, landed, effect, next}
use Rattle.book.specs.declared.Book.{Book}
use Rattle.book.proofs.Facts.{accepted_tests, Finishes, finishes}
use Rattle.book.proofs.Formed.{Formed, formed}
use Rattle.book.proofs.Views.{home, home_open, transfer_raw}
use Rattle.book.proofs.Whole.{next_accepted}
use Rattle.std.specs.Prelude.{Ok}

-- the end of transfer t, whose credits go back or not
abbrev pub ending : ℕ → Bool → Step
ending t true = Cancel t
ending t false = Finish t

module _ (b : Book) (t : ℕ) where
  -- where they land
  abbrev pub end : Bool → ℕ
  end back = home back (transfer_record b t)

  pub record Ended (back : Bool) : Type 0 where
    pub form : Formed b
    pub facts : Finishes (seen b) t
    pub here : (k : Bool) → is_some (place_at b (end k)) ≡ true
    pub left : next b (ending t back) ≡ landed b t (end back)

  tested : (back : Bool) → answer b (ending t back) ≡ Ok tt → (is_well_formed b ≡ true) × (first_refusal (tests_finish (seen b) t) ≡ Ok tt)
  tested true h = accepted_tests b (Cancel t) h
  tested false h = accepted_tests b (Finish t) h

  pub lands : (back : Bool) → effect b (ending t back) ≡ landed b t (end back)
  lands true = refl
  lands false = refl

  pub ended : (back : Bool) → answer b (ending t back) ≡ Ok tt → Ended back
  unfolding seen
  ended back h =
      let w : Formed b = formed b (tested back h).0 in
      let k : Finishes (seen b) t = finishes (seen b) t (tested back h).1 in
      record {
        form = w;
        facts = k;
        here = λ m. home_open b (transfer_record b t) m (rw (transfer_raw b t k.moving).1 at (w.transfers t k.low));
        left = next_accepted b (ending t back) h ∙ lands back;
      }
