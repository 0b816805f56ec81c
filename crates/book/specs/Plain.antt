-- Document 01, section "Book", the plain book: the start's unit and, at each of 16 places, at first nothing, later perhaps a subject
-- and a balance; by document 02, request 5, a reserved amount too.
use Rattle.std.specs.Prelude.{false, cond, List, [], ℕ, ◌+◌, ◌-◌, eqb}
use Rattle.std.proofs.Math.Option.{Option, some, none}
use Rattle.sheet.specs.Fields.{Sight, subject, balance, amount}
use Rattle.book.specs.Places.{place_view, closed_view}
use Rattle.sheet.specs.Walk.{sum}
use Rattle.book.specs.Book.{whole_amount}
use Rattle.book.specs.Steps.{Step, Open, Act, Begin, Finish, Cancel, Close, credits_in, bytes_in, Doing, Issuing, Taking, Reserving, Releasing, doing, changed, Seen, tests_of, first_refusal, after, Way, Begins, Ends, Stays, way}
use Rattle.book.specs.Refusals.{BookOutcome}

-- a subject and what it holds: a place as it is compared
pub record Holding : Type 0 where
  pub subject : List ℕ
  pub balance : ℕ
  pub reserved : ℕ

abbrev pub Plain : Type 0
Plain = ℕ → Option Holding

unfoldable pub empty_plain : Plain
empty_plain p = none

abbrev pub worth : Option Holding → ℕ
worth none = 0
worth (some h) = h.balance

abbrev pub reserved_of : Option Holding → ℕ
reserved_of none = 0
reserved_of (some h) = h.reserved

-- what the total counts of a place
abbrev pub stock : Option Holding → ℕ
stock o = worth o + reserved_of o

-- the sum of its balances and reserved amounts
unfoldable pub plain_total : Plain → ℕ
plain_total l = sum (λ p. stock (l p)) 16

-- its own places as balance states
abbrev pub plain_view : List ℕ → Option Holding → Sight
plain_view u none = closed_view
plain_view u (some h) = place_view h.subject u (whole_amount h.balance)

-- no transfer number is in use in it, and no transfer names a place: without 21 and 30
unfoldable pub plain_seen : List ℕ → Plain → Seen
plain_seen u l =
    record {
      unit = u;
      place = λ p. plain_view u (l p);
      held = λ p. worth (l p);
      reserved = λ p. reserved_of (l p);
      busy = λ t. false;
      awaited = λ p. false;
      total = plain_total l;
    }

-- what ends a transfer is never refused
abbrev pub unless_ends : Way → List BookOutcome → List BookOutcome
unless_ends (Begins t r) ts = ts
unless_ends (Ends t back) ts = []
unless_ends Stays ts = ts

-- the others are refused as in the book, by the plain book's own places: without 28, 21 and 30. Document 02, request 2: "in the plain book
-- this step and later requests' steps do what they do in the book, refused alike except by 28 and 30"
unfoldable pub plain_answer : List ℕ → Plain → Step → BookOutcome
plain_answer u l s = first_refusal (unless_ends (way s) (tests_of (plain_seen u l) s))

unfoldable pub plain_put : Plain → ℕ → Option Holding → Plain
plain_put l p x q = cond (eqb q p) x (l q)

-- the same subject, with n credits
abbrev pub with_balance : Holding → ℕ → Holding
with_balance h n = record { subject = h.subject; balance = n; reserved = h.reserved }

abbrev pub holds : Option Holding → ℕ → Option Holding
holds none n = none
holds (some h) n = some (with_balance h n)

-- the same subject and balance, with n reserved
abbrev pub keeps : Option Holding → ℕ → Option Holding
keeps none n = none
keeps (some h) n = some (record { subject = h.subject; balance = h.balance; reserved = n })

-- what is reserved after an act of v
abbrev pub plain_set_aside : Doing → ℕ → Option Holding → Option Holding
plain_set_aside Issuing v y = y
plain_set_aside Taking v y = y
plain_set_aside Reserving v y = keeps y (reserved_of y + v)
plain_set_aside Releasing v y = keeps y (reserved_of y - v)

-- a place after an act of v
abbrev pub plain_act_on : ℕ → ℕ → Option Holding → Option Holding
plain_act_on o v y = plain_set_aside (doing o) v (holds y (changed o (worth y) v))

abbrev pub plain_credits : Plain → ℕ → ℕ → Plain
plain_credits l p n = plain_put l p (holds (l p) n)

-- open: the place gets the sheet's subject and balance; act: the amount is added or subtracted, or moved to what is reserved or back; begin: the
-- amount leaves `from`'s balance and joins `to`'s at once; finish: nothing; close: the place holds nothing and has no subject. A cancel is not fed
-- to it
abbrev pub plain_effect : Plain → Step → Plain
plain_effect l (Open p i) = plain_put l p (some (record { subject = bytes_in subject i; balance = credits_in balance i; reserved = 0 }))
plain_effect l (Act p o i) = plain_put l p (plain_act_on o (credits_in amount i) (l p))
plain_effect l (Begin f g t i) =
    let m = plain_credits l f (worth (l f) - credits_in amount i) in plain_credits m g (worth (m g) + credits_in amount i)
plain_effect l (Finish t) = l
plain_effect l (Cancel t) = l
plain_effect l (Close p) = plain_put l p none

-- a refused one changes nothing
unfoldable pub plain_next : List ℕ → Plain → Step → Plain
plain_next u l s = after (plain_answer u l s) (plain_effect l s) l
