-- DEMAND 3: one claim over every accepted start and every list of steps. Each field quotes the sentence that it states.
use Rattle.std.specs.Prelude.{◌≡◌, Bool, true, false, cond, List, [], ◌∷◌, map, ℕ, ◌+◌, ◌<◌, eqb, take, Ok, Err}
use Rattle.std.proofs.Math.Option.{Option, some, none}
use Rattle.book.specs.Sets.{bit, occurrences}
use Rattle.book.specs.Book.{credits, name_bytes, is_well_formed, place_at, transfer_at, total}
use Rattle.book.specs.Steps.{Step, Finish, Cancel, answer, next, start_answer, start_book, issues, takes, Route, Way, Begins, Ends, Stays, way}
use Rattle.book.specs.Plain.{Holding, Plain, empty_plain, plain_answer, plain_next}
use Rattle.book.specs.declared.Place.{Place}
use Rattle.book.specs.declared.Transfer.{Transfer}
use Rattle.book.specs.declared.Book.{Book}
use Rattle.book.specs.Refusals.{BookOutcome}

-- ---- a list of steps

-- "each step gets the book as the one before left it"
abbrev pub run : Book → List Step → Book
run b [] = b
run b (s ∷ ss) = run (next b s) ss

abbrev pub keep : BookOutcome → Step → List Step → List Step
keep (Ok _) s ss = s ∷ ss
keep (Err e) s ss = ss

-- the accepted steps of a list, in their order
abbrev pub accepted_of : Book → List Step → List Step
accepted_of b [] = []
accepted_of b (s ∷ ss) = keep (answer b s) s (accepted_of (next b s) ss)

abbrev pub AllAccepted : Book → List Step → Type 0
AllAccepted b [] = Unit {0}
AllAccepted b (s ∷ ss) = (answer b s ≡ Ok tt) × AllAccepted (next b s) ss

-- ---- what accepted steps issued, took and left under way. "An accepted open issues its sheet's balance, an accepted 12, 13 or 17 its amount; an
-- accepted 14, 16, 18 or 19 takes its amount" (document 01), of which document 02, request 5, replaces what is said of 16 and 17: "neither step issues or
-- takes any more"

abbrev pub issued : List Step → ℕ
issued [] = 0
issued (s ∷ ss) = issues s + issued ss

abbrev pub taken : List Step → ℕ
taken [] = 0
taken (s ∷ ss) = takes s + taken ss

-- what a step makes of the transfers under way
abbrev pub noted : Way → (ℕ → Option Route) → ℕ → Option Route
noted (Begins t r) m = λ q. cond (eqb q t) (some r) (m q)
noted (Ends t back) m = λ q. cond (eqb q t) none (m q)
noted Stays m = m

abbrev pub routes_under_way : (ℕ → Option Route) → List Step → ℕ → Option Route
routes_under_way m [] = m
routes_under_way m (s ∷ ss) = routes_under_way (noted (way s) m) ss

-- what the book says of them
abbrev pub route : Option Transfer → Option Route
route none = none
route (some r) = some (record { from = r.from; to = r.to; credits = credits r.amount })

-- ---- document 02, request 1: "A cancelled transfer counts as one never begun when the balances are rebuilt from the accepted steps, its
-- begin and cancel left out"

-- whether the next end of transfer number t in a list is a cancel: d says it of the list behind a step, and a later end of t is another
-- transfer's, since numbers are used again
abbrev pub turned : Way → (ℕ → Bool) → ℕ → Bool
turned (Begins t r) d = d
turned (Ends t back) d = λ q. cond (eqb q t) back (d q)
turned Stays d = d

abbrev pub cancelled : List Step → ℕ → Bool
cancelled [] = λ t. false
cancelled (s ∷ ss) = turned (way s) (cancelled ss)

-- a begin whose transfer is cancelled behind it, and a cancel
abbrev pub left_out : Way → (ℕ → Bool) → Bool
left_out (Begins t r) d = d t
left_out (Ends t back) d = back
left_out Stays d = false

abbrev pub rebuilt : List Step → List Step
rebuilt [] = []
rebuilt (s ∷ ss) = cond (left_out (way s) (cancelled ss)) (rebuilt ss) (s ∷ rebuilt ss)

-- ---- the plain book of the unit u

abbrev pub plain_run : List ℕ → Plain → List Step → Plain
plain_run u l [] = l
plain_run u l (s ∷ ss) = plain_run u (plain_next u l s) ss

abbrev pub PlainAccepts : List ℕ → Plain → List Step → Type 0
PlainAccepts u l [] = Unit {0}
PlainAccepts u l (s ∷ ss) = (plain_answer u l s ≡ Ok tt) × PlainAccepts u (plain_next u l s) ss

-- "Compared are the open places, their subjects and balances": nothing where a place is closed. Document 02, request 5: "The rebuilt balances
-- cover reserved amounts too"
abbrev pub cell : Place → Holding
cell x = record { subject = name_bytes x.subject; balance = credits x.balance; reserved = credits x.reserved }

abbrev pub shown : Option Place → Option Holding
shown none = none
shown (some x) = some (cell x)

abbrev pub cell_at : Book → ℕ → Option Holding
cell_at b p = shown (place_at b p)

-- an order of the transfers under way, each once: t stands in it as often as the book's set has it
abbrev pub EachOnce : Book → List ℕ → Type 0
EachOnce b order = (t : ℕ) → occurrences t order ≡ bit b.pending t

-- ---- the claim

-- "at its start and after each of its steps": b is then the book, and a are the steps accepted so far
pub record Sound (b : Book) (a : List Step) : Type 0 where
  -- "the open places' balances plus the credits under way equal what the accepted steps so far issued less what they took". "Total is the open
  -- places' balances plus all under way" (document 01) is replaced by document 02, request 5: "The total, and with it the sum of demand 3, now
  -- includes reserved credits"
  pub conserved : total b + taken a ≡ issued a
  -- "the transfers under way, those of the book's set, are the ones that an accepted begin began and no later accepted step, here
  -- finish, has ended; each one's credits are its begin's amount" (document 01); a cancel ends one as well
  pub under_way : (t : ℕ) → route (transfer_at b t) ≡ routes_under_way (λ _. none) a t
  -- "the finish of any transfer under way would be accepted". Document 02, request 2: "A close never strands credits: after every step the
  -- finish and the cancel of any transfer under way would be accepted"
  pub finishable : (t : ℕ) → bit b.pending t ≡ 1 → answer b (Finish t) ≡ Ok tt
  -- and the cancel
  pub cancellable : (t : ℕ) → bit b.pending t ≡ 1 → answer b (Cancel t) ≡ Ok tt
  -- "Each step tests 28 first; no step from an accepted start meets it" (document 01)
  pub well_formed : is_well_formed b ≡ true

-- "in whatever order the transfers still under way are then finished, each once": from b, by an order; l is the plain book
pub record Settled (b : Book) (l : Plain) (order : List ℕ) : Type 0 where
  -- "every finish is accepted"
  pub finished : AllAccepted b (map Finish order)
  -- "and none is left under way"
  pub none_left : (run b (map Finish order)).pending ≡ 0
  -- "the open places, their subjects and their balances are then exactly those of document 01's plain book", and their reserved amounts
  pub same : (p : ℕ) → p < 16 → cell_at (run b (map Finish order)) p ≡ l p

-- of a start's unit and a list of steps
pub record Demand3 (u : List ℕ) (steps : List Step) : Type 0 where
  -- "at its start and after each of its steps": after the first n of them
  pub throughout : (n : ℕ) → Sound (run (start_book u) (take n steps)) (accepted_of (start_book u) (take n steps))
  -- "fed the accepted steps of the list alone in their order, .. and the plain book accepts every one of them"; of a cancelled transfer
  -- none (request 1), closes and reopenings with them: "Rebuilding the balances from accepted steps covers closes and reopenings" (request 2)
  pub plain_accepts : PlainAccepts u empty_plain (rebuilt (accepted_of (start_book u) steps))
  -- "After the list, in whatever order .."
  pub settles : (order : List ℕ) → EachOnce (run (start_book u) steps) order
      → Settled (run (start_book u) steps) (plain_run u empty_plain (rebuilt (accepted_of (start_book u) steps))) order

-- "For every list of these steps (open, act, begin, finish, refused ones among them) from a fresh book, however transfers overlap", with
-- cancels, closes, reserves and releases among them: "A fresh book is one an accepted start gave" (document 01)
abbrev pub Claim : Type 0
Claim = (u : List ℕ) → start_answer u ≡ Ok tt → (steps : List Step) → Demand3 u steps
