-- The balance profile's lists at a place ask only for what the input gives: laws of the code at a place.
use mathlib.Core.Path.{◌≡◌}
use mathlib.Core.Logic.{◌≢◌}
use mathlib.Core.List.{List, ◌∷◌}
use Prim.Native.Nat.{ℕ}
use lib.ListN.{length}
use borrow.Author.Tests.{ne_eqb}
use Rattle.amount.specs.declared.Amount.{Amount}
use Rattle.sheet.specs.Fields.{Field, text, to_subject}
use Rattle.registry.specs.Readers.{text_in}
use Rattle.registry.specs.Tests.{state_there, first, born, in_text}
use Rattle.registry.specs.Refusals.{Reading}
use Rattle.profiles.specs.Balance.{debited}
use Rattle.book.specs.Places.{place_view, put_field}

module _ (s u : List ℕ) (b : Amount) (inp : ℕ → Field) where
  -- begin: transfer's list with the destination's subject put in is debit's
  pub begin_debits : (read : ℕ → Field → Reading) (d : List ℕ) → length d ≢ 0
      → first read (place_view s u b) (put_field inp to_subject (text d)) (born ∷ in_text to_subject ∷ debited) ≡ first read (place_view s u b) inp (born ∷ debited)
  unfolding text_in state_there
  begin_debits read d h = rw (ne_eqb (length d) 0 h)
