-- What the code of a step goes by: a step without its sheet, what it looks at in a book, and the book with what it leaves.
use Rattle.std.specs.Prelude.{◌≡◌, Bool, true, false, cond, List, [], ◌∷◌, ℕ, ◌+◌, ◌%◌, leb, length, set, Option, Some, None, Result, Ok, Err}
use Rattle.amount.specs.Numbers.{halves}
use Rattle.amount.specs.declared.Amount.{Amount}
use Rattle.amount.specs.declared.uint128.Uint128.{Uint128}
use Rattle.sheet.specs.Fields.{Field, subject, authorized_by}
use Rattle.registry.specs.Refusals.{Outcome}
use Rattle.registry.specs.Readers.{text_in}
use Rattle.registry.specs.Tests.{among}
use Rattle.registry.specs.declared.error.ProfileError.TheVariants.{InsufficientQuantity}
use Rattle.book.specs.Book.{name_bytes, name_of, blank_name, place_record, transfer_record, total, awaited}
use Rattle.book.specs.Refusals.{BookOutcome}
use Rattle.book.specs.Steps.{Step, Open, Act, Begin, Finish, Cancel, Close, bytes_in, acts, Doing, Issuing, Taking, Reserving, Releasing, doing, answer, next, issues, takes}
use Rattle.book.specs.declared.Book.{Book}
use Rattle.book.specs.declared.Name.{Name}
use Rattle.book.specs.declared.error.BookError.{BookError}
use Rattle.book.specs.declared.error.BookError.TheVariants.{Profile}
use Rattle.audit.specs.Totals.{total_of}
use Rattle.steps.specs.declared.act.Doing.{Doing as CodeDoing}
use Rattle.steps.specs.declared.act.Doing.TheVariants as Does
use Rattle.steps.specs.declared.step.Step.{Step as Kind}
use Rattle.steps.specs.declared.step.Step.TheVariants as Code
use Rattle.steps.specs.declared.step.View.{View}

-- ---- a step

abbrev pub with_sheet : Kind → List ℕ → Step
with_sheet (Code.Open p) i = Open p i
with_sheet (Code.Act p o) i = Act p o i
with_sheet (Code.Begin f g t) i = Begin f g t i
with_sheet (Code.Finish t) i = Finish t
with_sheet (Code.Cancel t) i = Cancel t
with_sheet (Code.Close p) i = Close p

-- the end of transfer t, whose credits go back or not
abbrev pub ending : ℕ → Bool → Kind
ending t true = Code.Cancel t
ending t false = Code.Finish t

-- the transfer that it looks at, and the place; 0 where it looks at none. The remainder keeps it on the book
abbrev pub transfer_of : Kind → ℕ
transfer_of (Code.Open p) = 0
transfer_of (Code.Act p o) = 0
transfer_of (Code.Begin f g t) = t % 8
transfer_of (Code.Finish t) = t % 8
transfer_of (Code.Cancel t) = t % 8
transfer_of (Code.Close p) = 0

abbrev pub place_of : Kind → (from to : ℕ) → ℕ
place_of (Code.Open p) from to = p % 16
place_of (Code.Act p o) from to = p % 16
place_of (Code.Begin f g t) from to = f % 16
place_of (Code.Finish t) from to = to % 16
place_of (Code.Cancel t) from to = from % 16
place_of (Code.Close p) from to = p % 16

-- the place whose subject it looks at
abbrev pub destination_of : Kind → ℕ
destination_of (Code.Open p) = 0
destination_of (Code.Act p o) = 0
destination_of (Code.Begin f g t) = g % 16
destination_of (Code.Finish t) = 0
destination_of (Code.Cancel t) = 0
destination_of (Code.Close p) = 0

-- the same in a book
abbrev pub spot : Book → Kind → ℕ
spot b s = place_of s (transfer_record b (transfer_of s)).from (transfer_record b (transfer_of s)).to

-- whether a transfer under way names the place that it closes; another step does not ask
abbrev pub awaited_by : Kind → Book → Bool
awaited_by (Code.Open p) b = false
awaited_by (Code.Act p o) b = false
awaited_by (Code.Begin f g t) b = false
awaited_by (Code.Finish t) b = false
awaited_by (Code.Cancel t) b = false
awaited_by (Code.Close p) b = awaited b p

-- a text as a name; none of over 32 bytes
unfoldable pub short_name : List ℕ → Name
short_name t = cond (leb (length t) 32) (name_of t) blank_name

-- the subject of the place after an accepted step: an open's is its sheet's, a close's zeros
abbrev pub subject_after : Kind → Name → List ℕ → Name
subject_after (Code.Open p) old i = short_name (bytes_in subject i)
subject_after (Code.Act p o) old i = old
subject_after (Code.Begin f g t) old i = old
subject_after (Code.Finish t) old i = old
subject_after (Code.Cancel t) old i = old
subject_after (Code.Close p) old i = blank_name

-- what an operation of act does, as the code has it, and none of another
abbrev pub in_code : Doing → CodeDoing
in_code Issuing = Does.Issuing
in_code Taking = Does.Taking
in_code Reserving = Does.Reserving
in_code Releasing = Does.Releasing

unfoldable pub doing_of : ℕ → Option CodeDoing
doing_of o = cond (acts o) (Some (in_code (doing o))) None

-- the operations of act that name who authorized them
unfoldable pub authorized : ℕ → Bool
authorized o = among o (12 ∷ 19 ∷ [])

-- who authorized it, where the operation names one
abbrev pub authorizing : ℕ → (ℕ → Field) → Outcome
authorizing o inp = cond (authorized o) (text_in authorized_by (inp authorized_by)) (Ok tt)

-- ---- what it looks at, and the book with what it leaves

-- x is what a step looks at in b
pub record Shows (b : Book) (s : Kind) (x : View) : Type 0 where
  pub held : x.held ≡ (place_record b (spot b s)).balance.mantissa
  pub reserved : x.reserved ≡ (place_record b (spot b s)).reserved.mantissa
  pub carried : x.carried ≡ (transfer_record b (transfer_of s)).amount.mantissa
  pub total : x.total ≡ total_of b
  pub opened : x.opened ≡ b.opened
  pub pending : x.pending ≡ b.pending
  pub awaited : x.awaited ≡ awaited_by s b
  pub from : x.from ≡ (transfer_record b (transfer_of s)).from
  pub to : x.to ≡ (transfer_record b (transfer_of s)).to
  pub named : x.named ≡ length (name_bytes (place_record b (destination_of s)).subject)

-- the book with x at place p and transfer t, and n as the place's subject. Scales, the unit and all else stay
unfoldable pub stored_at : Book → ℕ → ℕ → Name → View → Book
stored_at b p t n x =
    record {
      unit = b.unit;
      opened = x.opened;
      pending = x.pending;
      places = set b.places p
          (record {
            subject = n;
            balance = record { mantissa = x.held; scale = (place_record b p).balance.scale };
            reserved = record { mantissa = x.reserved; scale = (place_record b p).reserved.scale };
          });
      transfers = set b.transfers t
          (record { from = x.from; to = x.to; amount = record { mantissa = x.carried; scale = (transfer_record b t).amount.scale } });
    }

-- a refused step leaves the book as it was
abbrev pub stored : Book → Kind → List ℕ → Result View BookError → Book
stored b s i (Ok x) = stored_at b (spot b s) (transfer_of s) (subject_after s (place_record b (spot b s)).subject i) x
stored b s i (Err e) = b

-- ---- the turn

abbrev pub whole_of : Uint128 → Amount
whole_of n = record { mantissa = n; scale = 0 }

-- 15: more is asked for than is held
abbrev pub short_of : Uint128 → Uint128 → BookError
short_of held asked = Profile (InsufficientQuantity (whole_of held) (whole_of asked))

-- whether it is accepted
abbrev pub outcome_of : {A : Type 0} → Result A BookError → BookOutcome
outcome_of (Ok x) = Ok tt
outcome_of (Err e) = Err e

-- THE TURN: its answer is the step's, what it leaves, stored, is the book after the step, and the total moves by what an accepted step issues
-- and takes
pub record Turned (b : Book) (s : Kind) (i : List ℕ) (r : Result View BookError) : Type 0 where
  pub answers : outcome_of r ≡ answer b (with_sheet s i)
  pub book : stored b s i r ≡ next b (with_sheet s i)
  pub total : (x : View) → r ≡ Ok x → (m : ℕ) → m + takes (with_sheet s i) ≡ total b + issues (with_sheet s i) → x.total ≡ Some (halves m)
