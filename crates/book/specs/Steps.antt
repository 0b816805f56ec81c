-- Document 01, section "Book", and document 02, requests 1, 2 and 5: the steps, which carry their sheets as bytes. The tests in their order, and
-- what an accepted step does.
use Rattle.std.specs.Prelude.{Bool, true, false, not, cond, ◌&&◌, ◌||◌, List, [], ◌∷◌, ℕ, ◌+◌, ◌-◌, eqb, leb, ltb, length, Ok, Err}
use Rattle.std.proofs.Math.Option.{Option, some, none}
use Rattle.amount.specs.Numbers.{limit}
use Rattle.sheet.specs.Sheet.{sound_as}
use Rattle.sheet.specs.Fields.{Field, field, Sight, subject, unit, balance, amount, to_subject}
use Rattle.sheet.specs.declared.Shape.TheVariants.{Input}
use Rattle.registry.specs.Readers.{amount_in, bytes_of, read_amount}
use Rattle.registry.specs.Tests.{among}
use Rattle.registry.specs.Call.{input_sound}
use Rattle.registry.specs.Refusals.{Outcome}
use Rattle.registry.specs.declared.error.ProfileError.TheVariants.{UnknownOperation, Born, Unborn, Empty}
use Rattle.profiles.specs.Balance.{balance_rules}
use Rattle.book.specs.Places.{place_view, closed_view, put_field}
use Rattle.book.specs.Book.{credits, whole_amount, name_bytes, name_of, blank_place, blank_book, blank_transfer, place_record, transfer_record, place_at, transfer_at, held_in, reserved_in, total, awaited, is_some, is_well_formed, set_subject, set_balance, set_reserved, set_unit, open_place, close_place, set_record, set_credits, set_transfer}
use Rattle.book.specs.declared.Place.{Place}
use Rattle.book.specs.declared.Book.{Book}
use Rattle.book.specs.declared.error.BookError.{BookError}
use Rattle.book.specs.declared.error.BookError.TheVariants.{Profile, UnderWay, OffTheBook, Idle, Itself, TooMuch, OtherUnit, LongName, BadBook, NotEmpty, Awaited, NotReserved}
use Rattle.book.specs.Refusals.{BookOutcome}

pub data Step : Type 0 where
  Open : (place : ℕ) (sheet : List ℕ) → Step
  Act : (place operation : ℕ) (sheet : List ℕ) → Step
  Begin : (from to transfer : ℕ) (sheet : List ℕ) → Step
  Finish : (transfer : ℕ) → Step
  Cancel : (transfer : ℕ) → Step
  Close : (place : ℕ) → Step

-- ---- what a sheet says

-- the amount of that name, as the profiles read it; 0 where there is none
unfoldable pub credits_in : ℕ → List ℕ → ℕ
credits_in name i = credits (read_amount (amount_in name (field i name)))

unfoldable pub bytes_in : ℕ → List ℕ → List ℕ
bytes_in name i = bytes_of (field i name)

-- the operations of act that add; the rest of them subtract
unfoldable pub adds : ℕ → Bool
adds o = among o (12 ∷ 13 ∷ 17 ∷ [])

-- all of them
unfoldable pub acts : ℕ → Bool
acts o = among o (12 ∷ 13 ∷ 14 ∷ 16 ∷ 17 ∷ 18 ∷ 19 ∷ [])

-- what one of them does. Request 5: "reserve moves credits there, release moves them back"; of the others those that add issue, the rest take
pub data Doing : Type 0 where
  Issuing : Doing
  Taking : Doing
  Reserving : Doing
  Releasing : Doing

unfoldable pub doing : ℕ → Doing
doing o = cond (eqb o 16) Reserving (cond (eqb o 17) Releasing (cond (adds o) Issuing Taking))

-- the balance after an act of v
abbrev pub changed : ℕ → ℕ → ℕ → ℕ
changed o held v = cond (adds o) (held + v) (held - v)

-- ---- tests

abbrev pub refused_if : Bool → BookError → BookOutcome
refused_if t e = cond t (Err e) (Ok tt)

-- what a profile says
abbrev pub said : Outcome → BookOutcome
said (Ok _) = Ok tt
said (Err e) = Err (Profile e)

-- the first test that is not passed
abbrev pub first_refusal : List BookOutcome → BookOutcome
first_refusal [] = Ok tt
first_refusal (Ok _ ∷ ts) = first_refusal ts
first_refusal (Err e ∷ ts) = Err e

abbrev pub same_bytes : List ℕ → List ℕ → Bool
same_bytes [] [] = true
same_bytes [] (y ∷ ys) = false
same_bytes (x ∷ xs) [] = false
same_bytes (x ∷ xs) (y ∷ ys) = eqb x y && same_bytes xs ys

-- what the tests go by, of a book or of the plain book: the unit, the places as balance states, what they hold and what they have reserved,
-- which transfer numbers are in use, which places the transfers under way name, and the total
pub record Seen : Type 0 where
  pub unit : List ℕ
  pub place : ℕ → Sight
  pub held : ℕ → ℕ
  pub reserved : ℕ → ℕ
  pub busy : ℕ → Bool
  pub awaited : ℕ → Bool
  pub total : ℕ

-- 2
abbrev pub sheet_sound : List ℕ → BookOutcome
sheet_sound i = said (input_sound (sound_as Input i))

-- the balance profile's check of an operation, at place p
abbrev pub check_at : Seen → ℕ → (ℕ → Field) → ℕ → BookOutcome
check_at s p inp o = said (balance_rules amount_in (s.place p) inp o)

-- begin's input: the destination's subject is its to_subject, whether or not the sheet has one
abbrev pub sent_to : Seen → ℕ → List ℕ → ℕ → Field
sent_to s g i = put_field (field i) to_subject ((s.place g).at subject)

-- open: 22, 5, 2, the balance create check, 26, 27 (subject), 25
unfoldable pub tests_open : Seen → ℕ → List ℕ → List BookOutcome
tests_open s p i =
    refused_if (leb 16 p) OffTheBook
    ∷ refused_if (s.place p).there (Profile Born)
    ∷ sheet_sound i
    ∷ check_at s p (field i) 11
    ∷ refused_if (not (same_bytes s.unit (bytes_in unit i))) OtherUnit
    ∷ refused_if (ltb 32 (length (bytes_in subject i))) (LongName subject)
    ∷ refused_if (leb limit (s.total + credits_in balance i)) TooMuch
    ∷ []

-- after the check of an act of v at place p: 25, which only what issues can meet. Request 5: "31 "not reserved", in release after its check,
-- if the amount exceeds what the place has reserved"
abbrev pub after_check : Doing → Seen → ℕ → ℕ → BookOutcome
after_check Issuing s p v = refused_if (leb limit (s.total + v)) TooMuch
after_check Taking s p v = Ok tt
after_check Reserving s p v = Ok tt
after_check Releasing s p v = refused_if (ltb (s.reserved p) v) NotReserved

-- act: 22, 6, 2, 4 unless 12, 13, 14, 16, 17, 18, 19; check; 25 or 31
unfoldable pub tests_act : Seen → ℕ → ℕ → List ℕ → List BookOutcome
tests_act s p o i =
    refused_if (leb 16 p) OffTheBook
    ∷ refused_if (not (s.place p).there) (Profile Unborn)
    ∷ sheet_sound i
    ∷ refused_if (not (acts o)) (Profile UnknownOperation)
    ∷ check_at s p (field i) o
    ∷ after_check (doing o) s p (credits_in amount i)
    ∷ []

-- begin: 22, 24, 21, 6 (either place), 2, balance.transfer's check
unfoldable pub tests_begin : Seen → ℕ → ℕ → ℕ → List ℕ → List BookOutcome
tests_begin s f g t i =
    refused_if (leb 16 f || leb 16 g || leb 8 t) OffTheBook
    ∷ refused_if (eqb f g) Itself
    ∷ refused_if (s.busy t) UnderWay
    ∷ refused_if (not ((s.place f).there && (s.place g).there)) (Profile Unborn)
    ∷ sheet_sound i
    ∷ check_at s f (sent_to s g i) 15
    ∷ []

-- finish: 22, 23. Request 1: "Cancel takes the transfer number, is met by 22 and 23"
unfoldable pub tests_finish : Seen → ℕ → List BookOutcome
tests_finish s t = refused_if (leb 8 t) OffTheBook ∷ refused_if (not (s.busy t)) Idle ∷ []

-- close. Request 2: "after 22 and 6, 29 "not empty" if the balance isn't zero; then 30 "awaited" if any transfer under way names the place
-- at either end". Request 5: "Close counts a reserved amount as not empty"
unfoldable pub tests_close : Seen → ℕ → List BookOutcome
tests_close s p =
    refused_if (leb 16 p) OffTheBook
    ∷ refused_if (not (s.place p).there) (Profile Unborn)
    ∷ refused_if (not (eqb (s.held p + s.reserved p) 0)) NotEmpty
    ∷ refused_if (s.awaited p) Awaited
    ∷ []

-- the tests of a step
abbrev pub tests_of : Seen → Step → List BookOutcome
tests_of s (Open p i) = tests_open s p i
tests_of s (Act p o i) = tests_act s p o i
tests_of s (Begin f g t i) = tests_begin s f g t i
tests_of s (Finish t) = tests_finish s t
tests_of s (Cancel t) = tests_finish s t
tests_of s (Close p) = tests_close s p

-- ---- the book

-- a place as a balance state: its subject, the book's unit, its balance
abbrev pub view_of : List ℕ → Option Place → Sight
view_of u none = closed_view
view_of u (some x) = place_view (name_bytes x.subject) u x.balance

unfoldable pub seen : Book → Seen
seen b =
    record {
      unit = name_bytes b.unit;
      place = λ p. view_of (name_bytes b.unit) (place_at b p);
      held = λ p. held_in (place_at b p);
      reserved = λ p. reserved_in (place_at b p);
      busy = λ t. is_some (transfer_at b t);
      awaited = λ p. awaited b p;
      total = total b;
    }

-- THE ANSWER: 28 first
unfoldable pub answer : Book → Step → BookOutcome
answer b s = first_refusal (refused_if (not (is_well_formed b)) BadBook ∷ tests_of (seen b) s)

-- what place p holds
abbrev pub held_at : Book → ℕ → ℕ
held_at b p = credits (place_record b p).balance

-- what is reserved after an act of v: reserve adds the amount, release subtracts it, and no other alters it
abbrev pub set_aside : Doing → ℕ → Place → Place
set_aside Issuing v x = x
set_aside Taking v x = x
set_aside Reserving v x = set_reserved x (whole_amount (credits x.reserved + v))
set_aside Releasing v x = set_reserved x (whole_amount (credits x.reserved - v))

-- a place after an act of v
abbrev pub act_on : ℕ → ℕ → Place → Place
act_on o v x = set_aside (doing o) v (set_balance x (whole_amount (changed o (credits x.balance) v)))

-- begin leaves this at the source, and finish makes this of what the destination holds
abbrev pub lessened : ℕ → ℕ → ℕ
lessened held v = held - v

abbrev pub raised : ℕ → ℕ → ℕ
raised held v = held + v

-- the credits of transfer t join what place p holds; the number is free again and its record zeros
abbrev pub landed : Book → ℕ → ℕ → Book
landed b t p = set_transfer (set_credits b p (raised (held_at b p) (credits (transfer_record b t).amount))) t 0 blank_transfer

-- THE EFFECT of an accepted step. Request 1: "cancel a transfer under way and see its credits back at the source"; it "frees the number, its
-- record zeros, as finish does". Request 2: close "makes its record zeros, and the place may be opened again". Request 5: a reserved amount is "set to
-- zero by open; reserve moves credits there, release moves them back"
abbrev pub effect : Book → Step → Book
effect b (Open p i) =
    open_place b p (set_balance (set_subject blank_place (name_of (bytes_in subject i))) (whole_amount (credits_in balance i)))
effect b (Act p o i) = set_record b p (act_on o (credits_in amount i) (place_record b p))
effect b (Begin f g t i) =
    set_transfer (set_credits b f (lessened (held_at b f) (credits_in amount i))) t 1
    (record { from = f; to = g; amount = whole_amount (credits_in amount i) })
effect b (Finish t) = landed b t (transfer_record b t).to
effect b (Cancel t) = landed b t (transfer_record b t).from
effect b (Close p) = close_place b p

-- a refused step changes nothing
abbrev pub after : {A : Type 0} → BookOutcome → A → A → A
after (Ok _) new old = new
after (Err e) new old = old

unfoldable pub next : Book → Step → Book
next b s = after (answer b s) (effect b s) b

-- ---- the start: 9 and 27 of the unit; a refused one gives a book of zeros

unfoldable pub start_answer : List ℕ → BookOutcome
start_answer u =
    first_refusal (refused_if (eqb (length u) 0) (Profile (Empty unit)) ∷ refused_if (ltb 32 (length u)) (LongName unit) ∷ [])

unfoldable pub start_book : List ℕ → Book
start_book u = after (start_answer u) (set_unit blank_book (name_of u)) blank_book

-- ---- what an accepted step issues or takes, by its sheet. Request 5, of reserve and release: "neither step issues or takes any more, which
-- replaces document 01's sentences on both"

pub data Flow : Type 0 where
  Issues : (credits : ℕ) → Flow
  Takes : (credits : ℕ) → Flow
  Neither : Flow

abbrev pub act_flow : Doing → ℕ → Flow
act_flow Issuing n = Issues n
act_flow Taking n = Takes n
act_flow Reserving n = Neither
act_flow Releasing n = Neither

abbrev pub flow : Step → Flow
flow (Open p i) = Issues (credits_in balance i)
flow (Act p o i) = act_flow (doing o) (credits_in amount i)
flow (Begin f g t i) = Neither
flow (Finish t) = Neither
flow (Cancel t) = Neither
flow (Close p) = Neither

abbrev pub inflow : Flow → ℕ
inflow (Issues n) = n
inflow (Takes n) = 0
inflow Neither = 0

abbrev pub outflow : Flow → ℕ
outflow (Issues n) = 0
outflow (Takes n) = n
outflow Neither = 0

abbrev pub issues : Step → ℕ
issues s = inflow (flow s)

abbrev pub takes : Step → ℕ
takes s = outflow (flow s)

-- ---- what an accepted step does to the transfers under way

-- a transfer under way: its ends and its credits
pub record Route : Type 0 where
  pub from : ℕ
  pub to : ℕ
  pub credits : ℕ

-- it begins one, ends one, whose credits go back or not, or neither
pub data Way : Type 0 where
  Begins : (transfer : ℕ) (route : Route) → Way
  Ends : (transfer : ℕ) (back : Bool) → Way
  Stays : Way

abbrev pub way : Step → Way
way (Open p i) = Stays
way (Act p o i) = Stays
way (Begin f g t i) = Begins t (record { from = f; to = g; credits = credits_in amount i })
way (Finish t) = Ends t false
way (Cancel t) = Ends t true
way (Close p) = Stays
