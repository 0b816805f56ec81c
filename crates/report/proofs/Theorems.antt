-- The theorems on the listing that docs/PROOFS.md names. Document 01: "open places, lowest first, with balance; open count, count under way,
-- total". `open_places_printed`: the place lines are the open places, each once, lowest first, each with its own balance and reserved amount, and
-- the printed open count is how many they are. `under_way_counted`: the printed count under way is how many transfers are under way.
-- `printed_total`: the printed total is what the run's accepted steps issued less what they took.
use mathlib.Core.Path.{◌≡◌}
use mathlib.Core.Bool.{true}
use mathlib.Core.Logic.{inr}
use mathlib.Core.List.{List, ◌++◌}
use Prim.Native.Nat.{ℕ, ◌-◌}
use native.Mathlib.Nat.{zero-add}
use native.Mathlib.Omega.{arith}
use lib.ListN.{length}
use Rattle.amount.specs.Canonical.{strip, decimal_text, whole_text, canonical_text}
use Rattle.amount.proofs.Halves.{val_halves}
use Rattle.sheet.specs.Walk.{sum}
use Rattle.book.specs.Book.{total, whole_amount}
use Rattle.book.specs.Steps.{Step, start_book}
use Rattle.book.specs.Claim.{accepted_of, issued, taken}
use Rattle.book.specs.declared.Book.{Book}
use Rattle.session.specs.Session.{good, unit_of, steps_of, book_of}
use Rattle.session.proofs.Theorems.{total_is_issued_less_taken}
use Rattle.report.specs.Listing.{place_lines, members, counts_text, held_word, way_word, total_word, line_feed, last_line}
use Rattle.report.specs.Places.{members_from, balance_lines, Members}
use Rattle.report.proofs.Opened.{none_outside, each_inside, rising, as_many, lines_from}

size : (o n : ℕ) → members n o ≡ length (members_from o 0 n)
unfolding members sum
size o n = rw (zero-add n, zero-add) at (as_many o n 0)

listed : (o n : ℕ) → Members o n (members_from o 0 n)
listed o n =
    record {
      each_once = λ p h. each_inside o n 0 p (omega arith) (omega arith);
      no_other = λ p h. none_outside o n 0 p (inr (omega arith));
      lowest_first = rising o n 0;
      counted = size o n;
    }

-- ---- places and counts

module _ (b : Book) where
  pub open_places_printed : Members b.opened 16 (members_from b.opened 0 16) × (place_lines b 16 ≡ balance_lines b (members_from b.opened 0 16))
  unfolding place_lines
  open_places_printed = (listed b.opened 16, lines_from b 16 0)

  -- and the last line's counts are how many places those are, and how many transfers are under way
  pub under_way_counted : Members b.pending 8 (members_from b.pending 0 8)
      × (
      last_line b
      ≡ held_word ++ whole_text (length (members_from b.opened 0 16)) ++ way_word ++ whole_text (length (members_from b.pending 0 8)) ++ total_word
      ++ canonical_text (whole_amount (total b)) ++ line_feed
      )
  unfolding last_line counts_text
  under_way_counted = (listed b.pending 8, rw (← (listed b.opened 16).counted, ← (listed b.pending 8).counted))

-- ---- the total

-- the text of a whole amount is its number
whole_text_lem : (n : ℕ) → canonical_text (whole_amount n) ≡ whole_text n
unfolding canonical_text strip decimal_text
whole_text_lem n = rw (val_halves n, val_halves n)

module _ (s : List ℕ) (h : good s ≡ true) where
  -- the run's accepted steps
  abbrev pub accepted : List Step
  accepted = accepted_of (start_book (unit_of s)) (steps_of s)

  pub printed_total : last_line (book_of s)
      ≡ counts_text (book_of s).opened (book_of s).pending ++ total_word ++ whole_text (issued accepted - taken accepted) ++ line_feed
  unfolding last_line
  printed_total =
      let e : total (book_of s) ≡ issued accepted - taken accepted = omega (arith, total_is_issued_less_taken s h) in
      rw (whole_text_lem (total (book_of s)), e)
