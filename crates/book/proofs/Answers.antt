-- Demand 2, "Each book step is those rules, on one account or a pair": where the book's own tests are passed, a step answers what check
-- answers at the place, its acceptance and every refusal; and what it doesn't name it leaves as it was.
use mathlib.Core.Path.{◌≡◌, refl, ◌∙◌}
use mathlib.Core.Logic.{◌≢◌}
use mathlib.Core.Bool.{Bool, true, false}
use mathlib.Core.List.{List}
use Prim.Native.Nat.{ℕ, ◌+◌, ◌≤◌, ◌<◌}
use native.Mathlib.Omega.{arith}
use lib.ListN.{length, get_or, set}
use lib.Seq.{get_or-set_other}
use borrow.Author.Tests.{lt-leb, le-ltb, ne_eqb}
use Rattle.amount.specs.Numbers.{limit}
use Rattle.sheet.specs.Fields.{field, subject, unit, balance, amount}
use Rattle.registry.specs.Readers.{amount_in}
use Rattle.registry.specs.Refusals.{Outcome}
use Rattle.registry.proofs.Words as profile
use Rattle.profiles.specs.Balance.{balance_rules}
use Rattle.book.specs.Sets.{with_bit, entry}
use Rattle.book.specs.Book.{credits, name_bytes, no_place, no_transfer, place_record, place_at, transfer_record, transfer_at, total, is_some, is_well_formed, open_place, close_place, set_record, set_transfer}
use Rattle.book.specs.Steps.{Step, Open, Act, Begin, Finish, Cancel, Close, credits_in, bytes_in, Doing, Issuing, Taking, Reserving, Releasing, doing, acts, said, same_bytes, after_check, sheet_sound, sent_to, tests_open, tests_act, tests_begin, seen, answer, effect, next}
use Rattle.book.specs.Refusals.{book_refusal_of, book_answer_of, BookOutcome}
use Rattle.book.specs.declared.Book.{Book}
use Rattle.book.specs.declared.error.BookError.{BookError}
use Rattle.book.specs.declared.error.BookError.TheVariants.{Profile, UnderWay, OffTheBook, Idle, Itself, TooMuch, OtherUnit, LongName, BadBook, NotEmpty, Awaited, NotReserved}
use Rattle.book.proofs.Tables.{bit_other}
use Rattle.book.proofs.Views.{place_raw}
use Rattle.book.proofs.Invariant.{view_there}
use Rattle.std.specs.Prelude.{Ok, Err}

-- ---- the number

refusal_positive : (e : BookError) → 0 < (book_refusal_of e).number
refusal_positive (Profile e) = profile.refusal_positive e
refusal_positive UnderWay = omega arith
refusal_positive OffTheBook = omega arith
refusal_positive Idle = omega arith
refusal_positive Itself = omega arith
refusal_positive TooMuch = omega arith
refusal_positive OtherUnit = omega arith
refusal_positive (LongName name) = omega arith
refusal_positive BadBook = omega arith
refusal_positive NotEmpty = omega arith
refusal_positive Awaited = omega arith
refusal_positive NotReserved = omega arith

-- it is 0 exactly where the outcome is accepted
pub zero_is_accepted : (o : BookOutcome) → (book_answer_of o).number ≡ 0 → o ≡ Ok tt
zero_is_accepted (Ok _) h = refl
zero_is_accepted (Err e) h = absurd (omega (arith, h, refusal_positive e))

pub accepted_is_zero : (o : BookOutcome) → o ≡ Ok tt → (book_answer_of o).number ≡ 0
accepted_is_zero o h = rw h

-- Demand 1: "a refusal alters no .. book"
pub refusal_alters_nothing : (b : Book) (s : Step) → ((book_answer_of (answer b s)).number ≡ 0 → ⊥) → next b s ≡ b
unfolding next
refusal_alters_nothing b s h = go (answer b s) refl
  where
    go : (o : BookOutcome) → answer b s ≡ o → next b s ≡ b
    go (Ok _) e = absurd (h (accepted_is_zero (answer b s) e))
    go (Err r) e = rw e

-- ---- the answer

module _ (b : Book) where
  pub there : (p : ℕ) {t : Bool} → is_some (place_at b p) ≡ t → ((seen b).place p).there ≡ t
  unfolding seen
  there p h = view_there (name_bytes b.unit) (place_at b p) ∙ h

  busy : (t : ℕ) {u : Bool} → is_some (transfer_at b t) ≡ u → (seen b).busy t ≡ u
  unfolding seen
  busy t h = h

  its_unit : (seen b).unit ≡ name_bytes b.unit
  unfolding seen
  its_unit = refl

  its_total : (seen b).total ≡ total b
  unfolding seen
  its_total = refl

  pub its_reserved : (p : ℕ) → is_some (place_at b p) ≡ true → (seen b).reserved p ≡ credits (place_record b p).reserved
  unfolding seen
  its_reserved p here = rw (place_raw b p here).1

  -- 25 and 31 are not met
  passes_after : (p n : ℕ) → is_some (place_at b p) ≡ true → (k : Doing) → (k ≡ Issuing → total b + n < limit) → (k ≡ Releasing → n ≤ credits (place_record b p).reserved)
      → after_check k (seen b) p n ≡ Ok tt
  passes_after p n here Issuing room kept = rw (its_total, lt-leb limit (total b + n) (room refl))
  passes_after p n here Taking room kept = refl
  passes_after p n here Reserving room kept = refl
  passes_after p n here Releasing room kept = rw (its_reserved p here, le-ltb (credits (place_record b p).reserved) n (kept refl))

  module _ (sound : is_well_formed b ≡ true) (i : List ℕ) (sheet : sheet_sound i ≡ Ok tt) where
    -- 26, 27 and 25 are not met
    pub open_is_check : (p : ℕ) → p < 16 → is_some (place_at b p) ≡ false → same_bytes (name_bytes b.unit) (bytes_in unit i) ≡ true
        → length (bytes_in subject i) ≤ 32 → total b + credits_in balance i < limit
        → answer b (Open p i) ≡ said (balance_rules amount_in ((seen b).place p) (field i) 11)
    unfolding answer tests_open
    open_is_check p low closed same short room = go (balance_rules amount_in ((seen b).place p) (field i) 11) refl
      where
        go : (x : Outcome) → balance_rules amount_in ((seen b).place p) (field i) 11 ≡ x → answer b (Open p i) ≡ said (balance_rules amount_in ((seen b).place p) (field i) 11)
        go (Ok _) e = rw (sound, lt-leb 16 p low, there p closed, sheet, its_unit, same, le-ltb 32 (length (bytes_in subject i)) short, its_total, lt-leb limit (total b + credits_in balance i) room, e)
        go (Err r) e = rw (sound, lt-leb 16 p low, there p closed, sheet, its_unit, same, le-ltb 32 (length (bytes_in subject i)) short, its_total, lt-leb limit (total b + credits_in balance i) room, e)

    -- 25 and 31 are not met: for what it issues there is room, and what it releases is reserved
    pub act_is_check : (p o : ℕ) → p < 16 → is_some (place_at b p) ≡ true → acts o ≡ true
        → (doing o ≡ Issuing → total b + credits_in amount i < limit) → (doing o ≡ Releasing → credits_in amount i ≤ credits (place_record b p).reserved)
        → answer b (Act p o i) ≡ said (balance_rules amount_in ((seen b).place p) (field i) o)
    unfolding answer tests_act
    act_is_check p o low here known room kept = go (balance_rules amount_in ((seen b).place p) (field i) o) refl
      where
        after : after_check (doing o) (seen b) p (credits_in amount i) ≡ Ok tt
        after = passes_after p (credits_in amount i) here (doing o) room kept

        go : (x : Outcome) → balance_rules amount_in ((seen b).place p) (field i) o ≡ x → answer b (Act p o i) ≡ said (balance_rules amount_in ((seen b).place p) (field i) o)
        go (Ok _) e = rw (sound, lt-leb 16 p low, there p here, sheet, known, after, e)
        go (Err r) e = rw (sound, lt-leb 16 p low, there p here, sheet, known, after, e)

    -- with the destination's subject as to_subject
    pub begin_is_check : (f g t : ℕ) → f < 16 → g < 16 → t < 8 → f ≢ g → is_some (transfer_at b t) ≡ false → is_some (place_at b f) ≡ true → is_some (place_at b g) ≡ true
        → answer b (Begin f g t i) ≡ said (balance_rules amount_in ((seen b).place f) (sent_to (seen b) g i) 15)
    unfolding answer tests_begin
    begin_is_check f g t low low_to low-t apart free here here-to = go (balance_rules amount_in ((seen b).place f) (sent_to (seen b) g i) 15) refl
      where
        go : (x : Outcome) → balance_rules amount_in ((seen b).place f) (sent_to (seen b) g i) 15 ≡ x → answer b (Begin f g t i) ≡ said (balance_rules amount_in ((seen b).place f) (sent_to (seen b) g i) 15)
        go (Ok _) e = rw (sound, lt-leb 16 f low, lt-leb 16 g low_to, lt-leb 8 t low-t, ne_eqb f g apart, busy t free, there f here, there g here-to, sheet, e)
        go (Err r) e = rw (sound, lt-leb 16 f low, lt-leb 16 g low_to, lt-leb 8 t low-t, ne_eqb f g apart, busy t free, there f here, there g here-to, sheet, e)

-- ---- the frame

-- the account that a step alters, and the transfer number
abbrev pub account_of : Book → Step → ℕ
account_of b (Open p i) = p
account_of b (Act p o i) = p
account_of b (Begin f g t i) = f
account_of b (Finish t) = (transfer_record b t).to
account_of b (Cancel t) = (transfer_record b t).from
account_of b (Close p) = p

abbrev pub Names : Step → ℕ → Type 0
Names (Open p i) q = ⊥
Names (Act p o i) q = ⊥
Names (Begin f g t i) q = q ≡ t
Names (Finish t) q = q ≡ t
Names (Cancel t) q = q ≡ t
Names (Close p) q = ⊥

module _ {A : Type 0} (d : A) (n : ℕ) (l : List A) (p : ℕ) (x : A) (q : ℕ) (apart : q ≢ p) where
  set_elsewhere : (entry d n (set l p x) q ≡ entry d n l q) × (get_or (set l p x) q d ≡ get_or l q d)
  unfolding entry
  set_elsewhere = let e = get_or-set_other l p q x d apart in (rw e, e)

  put_elsewhere : (k : ℕ) → k < 2 → (entry d (with_bit n p k) (set l p x) q ≡ entry d n l q) × (get_or (set l p x) q d ≡ get_or l q d)
  unfolding entry
  put_elsewhere k h = let e = get_or-set_other l p q x d apart in (rw (bit_other n p q k h apart, e), e)

-- place q, and transfer q: whether it is in use, and its record, in use or not
abbrev pub SamePlace : Book → Book → ℕ → Type 0
SamePlace b c q = (place_at c q ≡ place_at b q) × (place_record c q ≡ place_record b q)

abbrev pub SameTransfer : Book → Book → ℕ → Type 0
SameTransfer b c q = (transfer_at c q ≡ transfer_at b q) × (transfer_record c q ≡ transfer_record b q)

module _ (b : Book) (q : ℕ) where
  place_kept : (s : Step) → q ≢ account_of b s → SamePlace b (effect b s) q
  unfolding place_at place_record open_place close_place set_record set_transfer
  place_kept (Open p i) h = put_elsewhere no_place b.opened b.places p _ q h 1 (omega arith)
  place_kept (Act p o i) h = set_elsewhere no_place b.opened b.places p _ q h
  place_kept (Begin f g t i) h = set_elsewhere no_place b.opened b.places f _ q h
  place_kept (Finish t) h = set_elsewhere no_place b.opened b.places (transfer_record b t).to _ q h
  place_kept (Cancel t) h = set_elsewhere no_place b.opened b.places (transfer_record b t).from _ q h
  place_kept (Close p) h = put_elsewhere no_place b.opened b.places p _ q h 0 (omega arith)

  transfer_kept : (s : Step) → (Names s q → ⊥) → SameTransfer b (effect b s) q
  unfolding transfer_at transfer_record open_place close_place set_record set_transfer
  transfer_kept (Open p i) h = (refl, refl)
  transfer_kept (Act p o i) h = (refl, refl)
  transfer_kept (Begin f g t i) h = put_elsewhere no_transfer b.pending b.transfers t _ q h 1 (omega arith)
  transfer_kept (Finish t) h = put_elsewhere no_transfer b.pending b.transfers t _ q h 0 (omega arith)
  transfer_kept (Cancel t) h = put_elsewhere no_transfer b.pending b.transfers t _ q h 0 (omega arith)
  transfer_kept (Close p) h = (refl, refl)

  module _ (s : Step) where
    -- every other place is as it was, closed or not
    pub other_places : q ≢ account_of b s → SamePlace b (next b s) q
    unfolding next
    other_places h = go (answer b s) refl
      where
        go : (o : BookOutcome) → answer b s ≡ o → SamePlace b (next b s) q
        go (Ok _) e = rw e (place_kept s h)
        go (Err r) e = rw e (refl, refl)

    -- every other transfer is as it was, under way or not
    pub other_transfers : (Names s q → ⊥) → SameTransfer b (next b s) q
    unfolding next
    other_transfers h = go (answer b s) refl
      where
        go : (o : BookOutcome) → answer b s ≡ o → SameTransfer b (next b s) q
        go (Ok _) e = rw e (transfer_kept s h)
        go (Err r) e = rw e (refl, refl)

    pub same_unit : (next b s).unit ≡ b.unit
    unfolding next open_place close_place set_record set_transfer
    same_unit = go (answer b s) refl
      where
        kept : (s : Step) → (effect b s).unit ≡ b.unit
        kept (Open p i) = refl
        kept (Act p o i) = refl
        kept (Begin f g t i) = refl
        kept (Finish t) = refl
        kept (Cancel t) = refl
        kept (Close p) = refl

        go : (o : BookOutcome) → answer b s ≡ o → (next b s).unit ≡ b.unit
        go (Ok _) e = rw e (kept s)
        go (Err r) e = rw e
