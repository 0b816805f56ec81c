-- An account as a sheet: what check sees of the balance sheet of a place is the place, so that open, act and begin answer what check
-- answers for the account's sheet.
use mathlib.Core.Path.{◌≡◌, refl, sym, ap, ◌∙◌, fun_ext}
use mathlib.Core.Logic.{◌≢◌}
use mathlib.Core.Bool.{Bool, true, false, not, false≢true}
use mathlib.Core.List.{List, [], ◌∷◌}
use Prim.Native.Nat.{ℕ, zero, suc, ◌+◌, ◌≤◌, ◌<◌}
use native.Mathlib.Decide.{ℕ_discrete}
use native.Mathlib.Omega.{arith}
use lib.Dec.{eqb, leb, ltb}
use lib.ListN.{length, take}
use borrow.Author.Tests.{ne_eqb, eqb-true, leb-true}
use Rattle.amount.specs.Numbers.{limit}
use Rattle.amount.specs.declared.Amount.{Amount}
use Rattle.sheet.specs.Sheet.{entries_from, lookup, state_of, sound_as}
use Rattle.sheet.specs.Fields.{Field, text, figure, field, three, Sight, sight_of, subject, unit, balance, amount, to_subject}
use Rattle.sheet.specs.declared.Shape.TheVariants.{Input}
use Rattle.sheet.specs.declared.State.{State}
use Rattle.writer.specs.Encode.{balance_sheet}
use Rattle.writer.proofs.RoundTrip.{Sized, Back, balance_back}
use Rattle.registry.proofs.Tests.{among_each}
use Rattle.registry.specs.Readers.{amount_in}
use Rattle.registry.specs.Refusals as profile
use Rattle.registry.specs.Call.{state_sound, input_sound, profile_of, operation_of, called}
use Rattle.registry.specs.Refusals.{Outcome}
use Rattle.profiles.specs.Balance.{balance_rules}
use Rattle.profiles.specs.Check.{check_of}
use Rattle.resource_state.specs.Apply.{balance_next, next_of}
use Rattle.book.specs.Places.{place_field, place_view, closed_view, put_field}
use Rattle.book.specs.Book.{credits, name_bytes, place_record, place_at, transfer_at, total, is_some, is_well_formed, name_ok}
use Rattle.book.specs.Refusals.{book_answer_of, BookOutcome}
use Rattle.book.specs.Steps.{Open, Act, Begin, credits_in, bytes_in, Issuing, Releasing, doing, acts, same_bytes, said, sheet_sound, sent_to, seen, answer}
use Rattle.book.specs.declared.Name.{Name}
use Rattle.book.specs.declared.Book.{Book}
use Rattle.book.proofs.Formed.{Formed, formed, and_l, and_r}
use Rattle.book.proofs.Views.{place_raw}
use Rattle.book.proofs.Invariant.{is_none}
use Rattle.book.proofs.Answers.{open_is_check, act_is_check, begin_is_check}
use Rattle.book.proofs.Applies.{view_is}
use Rattle.std.specs.Prelude.{Ok, Err}

-- ---- a sheet that is no torn state and is seen as v: its check and its next state are the balance profile's rows at v

module _ (sheet : List ℕ) (v : Sight) (shown : sight_of sheet ≡ v) (state : state_sound 1 (state_of sheet) ≡ Ok tt) where
  module _ (i : List ℕ) (sound : sound_as Input i ≡ true) (o : ℕ) (of : profile_of o ≡ 2) where
    calls : called 2 o sheet i ≡ Ok tt
    unfolding called operation_of
    calls = rw (state, sound, of)

    pub seen_check : check_of 2 o sheet i ≡ balance_rules amount_in v (field i) o
    unfolding check_of
    seen_check = rw calls (ap (λ (x : Sight). balance_rules amount_in x (field i) o) shown)

    pub seen_next : next_of 2 o sheet i ≡ balance_next amount_in v (field i) o
    unfolding next_of
    seen_next = rw calls (ap (λ (x : Sight). balance_next amount_in x (field i) o) shown)

-- no sheet is seen as a closed place
pub no_sheet : sight_of [] ≡ closed_view
unfolding field entries_from lookup
no_sheet = refl

-- ---- a balance sheet

eqb_comm : (m n : ℕ) → eqb m n ≡ eqb n m
eqb_comm m n = go (ℕ_discrete m n)
  where
    go : Dec (m ≡ n) → eqb m n ≡ eqb n m
    go (yes e) = rw e
    go (no d) = ne_eqb m n d ∙ sym (ne_eqb n m (λ h. d (sym h)))

there : (s : List ℕ) → state_of s ≡ State.Balance → not (eqb (length s) 0) ≡ true
there s h = go (eqb (length s) 0) refl h
  where
    go : (t : Bool) → eqb (length s) 0 ≡ t → state_of s ≡ State.Balance → not t ≡ true
    go true e k = let z : State.Absent ≡ State.Balance = rw e at k in let q : ◌≡◌ {A = ℕ} 0 1 = cc in absurd (omega arith)
    go false e k = refl

module _ (s u : List ℕ) (a : Amount) (short-s : length s ≤ 256) (short-u : length u ≤ 256) (sized : Sized a) where
  pub back : Back (balance_sheet s u a) State.Balance (three 1 (text s) 2 (text u) 4 (figure a))
  back = balance_back s short-s u short-u a sized

  pub fields : (n : ℕ) → field (balance_sheet s u a) n ≡ place_field s u a n
  fields n = back.fields n ∙ rw (eqb_comm 1 n, eqb_comm 2 n, eqb_comm 4 n)

  -- the sheet is seen as the place
  pub place_sheet : sight_of (balance_sheet s u a) ≡ place_view s u a
  place_sheet = λ j. record { there = there (balance_sheet s u a) back.is j; at = fun_ext fields j }

-- ---- an account of the book

-- the account's sheet: its subject, the book's unit, its balance
abbrev pub sheet_at : Book → ℕ → List ℕ
sheet_at b p = balance_sheet (name_bytes (place_record b p).subject) (name_bytes b.unit) (place_record b p).balance

take_short : (k : ℕ) (l : List ℕ) → length (take k l) ≤ k
take_short zero l = omega arith
take_short (suc k) [] = omega arith
take_short (suc k) (x ∷ l) = let z = take_short k l in omega (arith, z)

name_short : (n : Name) → name_ok n ≡ true → length (name_bytes n) ≤ 256
unfolding name_ok name_bytes
name_short n h =
    let k = leb-true n.len 32 (and_r (ltb 0 n.len) (leb n.len 32) h) in
    omega (arith, k, take_short n.len n.bytes)

-- an open place of a sound book, whose balance is of two 64-bit halves
module _ (b : Book) (f : Formed b) (p : ℕ) (low : p < 16) (here : is_some (place_at b p) ≡ true) (sized : Sized (place_record b p).balance) where
  abbrev its_subject : List ℕ
  its_subject = name_bytes (place_record b p).subject

  abbrev its_unit : List ℕ
  its_unit = name_bytes b.unit

  subject_short : length its_subject ≤ 256
  subject_short = name_short (place_record b p).subject (rw (place_raw b p here).1 at (f.places p low))

  unit_short : length its_unit ≤ 256
  unit_short = name_short b.unit f.unit

  pub account_fields : (n : ℕ) → field (sheet_at b p) n ≡ place_field its_subject its_unit (place_record b p).balance n
  account_fields = fields its_subject its_unit (place_record b p).balance subject_short unit_short sized

  pub account_sound : (which : ℕ) → state_sound which (state_of (sheet_at b p)) ≡ Ok tt
  account_sound which = rw (back its_subject its_unit (place_record b p).balance subject_short unit_short sized).is

  pub account_seen : sight_of (sheet_at b p) ≡ (seen b).place p
  account_seen = place_sheet its_subject its_unit (place_record b p).balance subject_short unit_short sized ∙ sym (view_is b p here)

-- ---- what a step answers

said_number : (x : Outcome) → book_answer_of (said x) ≡ profile.answer_of x
said_number (Ok _) = refl
said_number (Err e) = refl

-- a step that says what a list says, and a check that answers it too
same_answer : (x : BookOutcome) (y z : Outcome) → x ≡ said y → z ≡ y → book_answer_of x ≡ profile.answer_of z
same_answer x y z e k = ap book_answer_of e ∙ said_number y ∙ ap profile.answer_of (sym k)

pub sheet_is_input : (i : List ℕ) → sheet_sound i ≡ Ok tt → sound_as Input i ≡ true
sheet_is_input i h = go (sound_as Input i) refl h
  where
    go : (v : Bool) → sound_as Input i ≡ v → said (input_sound v) ≡ Ok tt → sound_as Input i ≡ true
    go true e k = e
    go false e k = let q : ◌≡◌ {A = ℕ} 0 1 = cc in absurd (omega arith)

pub same_bytes_lem : (x y : List ℕ) → same_bytes x y ≡ true → x ≡ y
same_bytes_lem [] [] h = refl
same_bytes_lem [] (y ∷ ys) h = absurd (false≢true h)
same_bytes_lem (x ∷ xs) [] h = absurd (false≢true h)
same_bytes_lem (x ∷ xs) (y ∷ ys) h =
    let e = eqb-true x y (and_l (eqb x y) (same_bytes xs ys) h) in
    let r = same_bytes_lem xs ys (and_r (eqb x y) (same_bytes xs ys) h) in
    rw (e, r)

-- an operation of act is one of the balance profile
Balances : ℕ → Type 0
Balances o = profile_of o ≡ 2

pub of_balances : (o : ℕ) → acts o ≡ true → profile_of o ≡ 2
unfolding acts Balances
of_balances o = among_each Balances (12 ∷ 13 ∷ 14 ∷ 16 ∷ 17 ∷ 18 ∷ 19 ∷ []) (refl, (refl, (refl, (refl, (refl, (refl, (refl, tt))))))) o

pub closed_seen : (b : Book) (p : ℕ) → is_some (place_at b p) ≡ false → (seen b).place p ≡ closed_view
unfolding seen
closed_seen b p h = rw (is_none (place_at b p) h)

-- begin's input as a sheet of its own: i with the subject of place g as to_subject, whether or not i has one
abbrev pub SentTo : Book → ℕ → List ℕ → List ℕ → Type 0
SentTo b g i sent = (n : ℕ) → field sent n ≡ put_field (field i) to_subject (text (name_bytes (place_record b g).subject)) n

pub sent_is : (b : Book) (g : ℕ) (i sent : List ℕ) → is_some (place_at b g) ≡ true → SentTo b g i sent → field sent ≡ sent_to (seen b) g i
sent_is b g i sent here e = fun_ext e ∙ ap (λ (v : Sight). put_field (field i) to_subject (v.at subject)) (sym (view_is b g here))

module _ (b : Book) (sound : is_well_formed b ≡ true) (i : List ℕ) (sheet : sheet_sound i ≡ Ok tt) where
  -- An open that passes the book's own tests answers, number, detail and amounts, what check of create answers where there is no sheet.
  -- Premises: those of `open_is_check`, so a book that passes 28 and a sound sheet; 22, 5, 26, 27 and 25 are not met.
  pub open_is_its_sheet's_check : (p : ℕ) → p < 16 → is_some (place_at b p) ≡ false → same_bytes (name_bytes b.unit) (bytes_in unit i) ≡ true
      → length (bytes_in subject i) ≤ 32 → total b + credits_in balance i < limit
      → book_answer_of (answer b (Open p i)) ≡ profile.answer_of (check_of 2 11 [] i)
  open_is_its_sheet's_check p low closed same short room =
      same_answer (answer b (Open p i)) (balance_rules amount_in ((seen b).place p) (field i) 11) (check_of 2 11 [] i)
      (open_is_check b sound i sheet p low closed same short room)
      (seen_check [] ((seen b).place p) (no_sheet ∙ sym (closed_seen b p closed)) refl i (sheet_is_input i sheet) 11 refl)

  -- An act that passes the book's own tests answers what check answers for the account's sheet.
  -- Premises: those of `act_is_check`, so 22, 6, 4, 25 and 31 are not met; and the balance is of two 64-bit halves.
  pub act_is_its_sheet's_check : (p o : ℕ) → p < 16 → is_some (place_at b p) ≡ true → Sized (place_record b p).balance → acts o ≡ true
      → (doing o ≡ Issuing → total b + credits_in amount i < limit) → (doing o ≡ Releasing → credits_in amount i ≤ credits (place_record b p).reserved)
      → book_answer_of (answer b (Act p o i)) ≡ profile.answer_of (check_of 2 o (sheet_at b p) i)
  act_is_its_sheet's_check p o low here sized known room kept =
      let f = formed b sound in
      same_answer (answer b (Act p o i)) (balance_rules amount_in ((seen b).place p) (field i) o) (check_of 2 o (sheet_at b p) i)
      (act_is_check b sound i sheet p o low here known room kept)
      (seen_check (sheet_at b p) ((seen b).place p) (account_seen b f p low here sized) (account_sound b f p low here sized 1) i (sheet_is_input i sheet) o (of_balances o known))

  -- A begin that passes the book's own tests answers what check of transfer answers for the source's sheet and the sheet `sent`.
  -- Premises: those of `begin_is_check`, so 22, 24, 21 and 6 are not met; the source's balance is of two 64-bit halves; `sent` is a sound
  -- input, the step's sheet with the destination's subject as to_subject.
  pub begin_is_its_sheet's_check : (f g t : ℕ) → f < 16 → g < 16 → t < 8 → f ≢ g → is_some (transfer_at b t) ≡ false
      → is_some (place_at b f) ≡ true → is_some (place_at b g) ≡ true → Sized (place_record b f).balance
      → (sent : List ℕ) → SentTo b g i sent → sound_as Input sent ≡ true
      → book_answer_of (answer b (Begin f g t i)) ≡ profile.answer_of (check_of 2 15 (sheet_at b f) sent)
  begin_is_its_sheet's_check f g t low low_to low-t apart free here here-to sized sent its-fields its-layout =
      let w = formed b sound in
      same_answer (answer b (Begin f g t i)) (balance_rules amount_in ((seen b).place f) (sent_to (seen b) g i) 15) (check_of 2 15 (sheet_at b f) sent)
      (begin_is_check b sound i sheet f g t low low_to low-t apart free here here-to)
      (seen_check (sheet_at b f) ((seen b).place f) (account_seen b w f low here sized) (account_sound b w f low here sized 1) sent its-layout 15 refl
      ∙ ap (λ (x : ℕ → Field). balance_rules amount_in ((seen b).place f) x 15) (sent_is b g i sent here-to its-fields))
