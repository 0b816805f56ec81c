-- What an accepted step does to an account, in bytes: what apply writes for the account's sheet, and credit for the destination's, is the
-- account's sheet after the step.
use mathlib.Core.Path.{◌≡◌, refl, sym, ap, ◌∙◌}
use mathlib.Core.Bool.{Bool, true, false, not}
use mathlib.Core.Option.{none}
use mathlib.Core.List.{List, [], ◌∷◌}
use Prim.Native.Nat.{ℕ, ◌+◌, ◌-◌, ◌^◌, ◌<◌}
use native.Mathlib.Decide.{ℕ_discrete}
use native.Mathlib.Omega.{arith}
use lib.ListN.{length}
use lib.Seq.{get_or-set_same}
use borrow.Author.Tests.{ne_eqb}
use Rattle.amount.specs.Numbers.{limit, halves}
use Rattle.amount.specs.Decimal.{all_digits, digits_after, decimal}
use Rattle.amount.specs.Amounts.{amount_if, read_of}
use Rattle.amount.specs.Canonical.{zeros}
use Rattle.amount.specs.declared.Amount.{Amount}
use Rattle.sheet.specs.Walk.{every, sum, prior}
use Rattle.sheet.specs.Sheet.{entry_at, entries_from, lookup, sound_as}
use Rattle.sheet.specs.Fields.{Field, text, field, subject, unit, balance, amount, to_subject}
use Rattle.sheet.specs.declared.Shape.TheVariants.{Input}
use Rattle.writer.specs.Encode.{encode, item, put_into, balance_sheet}
use Rattle.writer.proofs.RoundTrip.{Sized}
use Rattle.registry.specs.Readers.{bytes_of, marked, parsed, amount_by, amount_in}
use Rattle.registry.specs.Call.{profile_of}
use Rattle.resource_state.specs.Next.{text_from, sheet_of, Next}
use Rattle.resource_state.specs.Apply.{balance_next, next_of}
use Rattle.resource_state.specs.declared.Part.{Part}
use Rattle.transition.specs.Credit.{credit_of}
use Rattle.transition.specs.Written.{buffer_after}
use Rattle.book.specs.Places.{put_field}
use Rattle.book.specs.Book.{credits, whole_amount, name_bytes, name_of, no_place, no_transfer, blank_transfer, place_record, transfer_record, place_at, transfer_at, is_some, open_place, set_record, set_credits, set_transfer}
use Rattle.book.specs.Steps.{Open, Act, Begin, Finish, Cancel, credits_in, bytes_in, doing, held_at, seen, answer, next}
use Rattle.book.specs.declared.Place.{Place}
use Rattle.book.specs.declared.Transfer.{Transfer}
use Rattle.book.specs.declared.Book.{Book}
use Rattle.book.proofs.Worked.{asking, second_left}
use Rattle.book.proofs.AcceptedOrRefused.{answered}
use Rattle.book.proofs.Tables.{entry_drop}
use Rattle.book.proofs.Names.{name_bytes_lem}
use Rattle.book.proofs.Acts.{aside_apart}
use Rattle.book.proofs.Formed.{Formed, formed}
use Rattle.book.proofs.Views.{open_lt}
use Rattle.book.proofs.Facts.{accepted_tests, Opens, opens, Acts, acts_so, Begins, begins}
use Rattle.book.proofs.Invariant.{view_there}
use Rattle.book.proofs.Whole.{next_accepted}
use Rattle.book.proofs.Applies.{Named, made, open_there, open_is_apply, act_is_apply, begin_is_apply, end_is_credit}
use Rattle.book.proofs.Endings.{ending, end, Ended, ended}
use Rattle.book.proofs.Accounts.{seen_next, no_sheet, closed_seen, sheet_at, account_fields, account_sound, account_seen, sheet_is_input, of_balances, SentTo, sent_is, same_bytes_lem}
use Rattle.std.specs.Prelude.{Ok}

-- ---- what is written, and the account afterwards

-- a balance state that was made: its two texts and its amount
written : (n : Next) (s i : List ℕ) (x y : Part) (a : Amount) (old : List ℕ) → n ≡ made x y a
    → buffer_after n s i old ≡ put_into (balance_sheet (text_from (field s) (field i) x) (text_from (field s) (field i) y) a) old
unfolding buffer_after sheet_of
written n s i x y a old e = rw e

-- the record of a place that was opened, or set
opened_record : (b : Book) (p : ℕ) (x : Place) → length b.places ≡ 16 → p < 16 → place_record (open_place b p x) p ≡ x
unfolding place_record open_place
opened_record b p x size low = get_or-set_same b.places p x no_place (rw size low)

set_record_lem : (b : Book) (p : ℕ) (x : Place) → length b.places ≡ 16 → p < 16 → place_record (set_record b p x) p ≡ x
unfolding place_record set_record
set_record_lem b p x size low = get_or-set_same b.places p x no_place (rw size low)

-- its sheet
record_sheet : (b : Book) (p : ℕ) (x : Place) → length b.places ≡ 16 → p < 16
    → sheet_at (set_record b p x) p ≡ balance_sheet (name_bytes x.subject) (name_bytes b.unit) x.balance
unfolding set_record
record_sheet b p x size low = ap (λ (y : Place). balance_sheet (name_bytes y.subject) (name_bytes b.unit) y.balance) (set_record_lem b p x size low)

-- a transfer that is set alters no account
transfer_apart : (b : Book) (t d : ℕ) (r : Transfer) (p : ℕ) → sheet_at (set_transfer b t d r) p ≡ sheet_at b p
unfolding place_record set_transfer
transfer_apart b t d r p = refl

-- act and begin: apply of an operation that keeps the texts and makes n credits writes the sheet of the account with n credits, whatever it has
-- reserved
module _ (b : Book) (f : Formed b) (p : ℕ) (low : p < 16) (here : is_some (place_at b p) ≡ true) (sized : Sized (place_record b p).balance) (size : length b.places ≡ 16) where
  applied : (o : ℕ) → profile_of o ≡ 2 → (i : List ℕ) → sound_as Input i ≡ true → (n : ℕ)
      → balance_next amount_in ((seen b).place p) (field i) o ≡ made (Part.State subject) (Part.State unit) (whole_amount n)
      → (x : Place) → x.subject ≡ (place_record b p).subject → x.balance ≡ whole_amount n
      → (old : List ℕ) → buffer_after (next_of 2 o (sheet_at b p) i) (sheet_at b p) i old ≡ put_into (sheet_at (set_record b p x) p) old
  unfolding bytes_of
  applied o of i sound n makes x its_subject its_balance old =
      written (next_of 2 o (sheet_at b p) i) (sheet_at b p) i (Part.State subject) (Part.State unit) (whole_amount n) old
      (seen_next (sheet_at b p) ((seen b).place p) (account_seen b f p low here sized) (account_sound b f p low here sized 1) i sound o of ∙ makes)
      ∙ ap (λ (y : List ℕ). put_into y old)
      (rw (account_fields b f p low here sized subject, account_fields b f p low here sized unit, ← its_subject, ← its_balance) (sym (record_sheet b p x size low)))

-- ---- the four steps

-- Apply of create with no state sheet and the step's sheet writes the account's sheet after an accepted open.
-- Premises: 16 places, as every book has that code holds; the step is accepted.
pub open_writes_its_sheet : (b : Book) (i : List ℕ) (p : ℕ) → length b.places ≡ 16 → answer b (Open p i) ≡ Ok tt
    → (old : List ℕ) → buffer_after (next_of 2 11 [] i) [] i old ≡ put_into (sheet_at (next b (Open p i)) p) old
unfolding seen open_place bytes_in
open_writes_its_sheet b i p size h old =
    let t : Opens (seen b) p i = opens (seen b) p i (accepted_tests b (Open p i) h).1 in
    let closed : is_some (place_at b p) ≡ false = sym (view_there (name_bytes b.unit) (place_at b p)) ∙ t.closed in
    let its_unit : name_bytes b.unit ≡ bytes_in unit i = same_bytes_lem (name_bytes b.unit) (bytes_in unit i) t.same_unit in
    written (next_of 2 11 [] i) [] i (Part.Input subject) (Part.Input unit) (whole_amount (credits_in balance i)) old
    (seen_next [] ((seen b).place p) (no_sheet ∙ sym (closed_seen b p closed)) refl i (sheet_is_input i t.sheet) 11 refl ∙ open_is_apply b p i h)
    ∙ ap (λ (x : List ℕ). put_into x old)
    (rw (next_accepted b (Open p i) h, opened_record b p _ size t.low, its_unit, name_bytes_lem (bytes_in subject i)))

-- Apply of an act's operation writes for the account's sheet the account's sheet after an accepted act.
-- Premises: 16 places and names of 32 bytes, as every book has that code holds; the balance is of two 64-bit halves; the step is accepted.
pub act_writes_its_sheet : (b : Book) (i : List ℕ) (p o : ℕ) → length b.places ≡ 16 → Named b p → Sized (place_record b p).balance → answer b (Act p o i) ≡ Ok tt
    → (old : List ℕ) → buffer_after (next_of 2 o (sheet_at b p) i) (sheet_at b p) i old ≡ put_into (sheet_at (next b (Act p o i)) p) old
act_writes_its_sheet b i p o size named sized h old =
    let f = formed b (accepted_tests b (Act p o i) h).0 in
    let t : Acts (seen b) p o i = acts_so (seen b) p o i (accepted_tests b (Act p o i) h).1 in
    rw (next_accepted b (Act p o i) h)
    (applied b f p t.low (open_there b p t.here) sized size o (of_balances o t.operation) i (sheet_is_input i t.sheet) _ (act_is_apply b p o i named h) _
    (aside_apart (credits_in amount i) _ (doing o)).0 (aside_apart (credits_in amount i) _ (doing o)).1 old)

-- Apply of transfer, by the sheet `sent`, writes for the source's sheet the source's sheet after an accepted begin.
-- Premises: those of act, of the source; `sent` is a sound input, the step's sheet with the destination's subject as to_subject.
pub begin_writes_its_sheet : (b : Book) (i : List ℕ) (f g t : ℕ) → length b.places ≡ 16 → Named b f → Sized (place_record b f).balance → answer b (Begin f g t i) ≡ Ok tt
    → (sent : List ℕ) → SentTo b g i sent → sound_as Input sent ≡ true
    → (old : List ℕ) → buffer_after (next_of 2 15 (sheet_at b f) sent) (sheet_at b f) sent old ≡ put_into (sheet_at (next b (Begin f g t i)) f) old
begin_writes_its_sheet b i f g t size named sized h sent its-fields its-layout old =
    let w = formed b (accepted_tests b (Begin f g t i) h).0 in
    let k : Begins (seen b) f g t i = begins (seen b) f g t i (accepted_tests b (Begin f g t i) h).1 in
    let makes = ap (λ (x : ℕ → Field). balance_next amount_in ((seen b).place f) x 15) (sent_is b g i sent (open_there b g k.to_here) its-fields) ∙ begin_is_apply b f g t i named h in
    rw (next_accepted b (Begin f g t i) h, transfer_apart (set_credits b f (held_at b f - credits_in amount i)) t 1 _ f)
    (applied b w f k.low_from (open_there b f k.from_here) sized size 15 refl sent its-layout (held_at b f - credits_in amount i) makes _ refl refl old)

-- Credit, by the sheets of both ends, writes the sheet of the end where the credits land after an accepted finish or cancel.
-- Premises: 16 places, `opened` of 16 bits, and that end's names of 32 bytes, as every book has that code holds; both balances are of
-- two 64-bit halves; the step is accepted; `sent` is a sound input whose to_subject is that end's subject and whose amount is read as
-- the transfer's.
pub end_writes_its_sheet : (b : Book) (t : ℕ) (back : Bool) → length b.places ≡ 16 → b.opened < 2 ^ 16 → Named b (end b t back)
    → ((k : Bool) → Sized (place_record b (end b t k)).balance) → answer b (ending t back) ≡ Ok tt
    → (sent : List ℕ) → sound_as Input sent ≡ true → field sent to_subject ≡ text (name_bytes (place_record b (end b t back)).subject)
    → amount_in amount (field sent amount) ≡ Ok (transfer_record b t).amount
    → (old : List ℕ) → buffer_after (credit_of 15 (sheet_at b (end b t (not back))) (sheet_at b (end b t back)) sent) (sheet_at b (end b t (not back))) sent old
    ≡ put_into (sheet_at (next b (ending t back)) (end b t back)) old
unfolding credit_of bytes_of
end_writes_its_sheet b t back size few named sized h sent its-layout its_subject its-amount old =
    let d : Ended b t back = ended b t back h in
    let f : ℕ = end b t (not back) in
    let g : ℕ = end b t back in
    let here_f : is_some (place_at b f) ≡ true = d.here (not back) in
    let here_g : is_some (place_at b g) ≡ true = d.here back in
    let low-f : f < 16 = open_lt b few f here_f in
    let low-g : g < 16 = open_lt b few g here_g in
    let n : ℕ = held_at b g + credits (transfer_record b t).amount in
    let makes : credit_of 15 (sheet_at b f) (sheet_at b g) sent ≡ made (Part.Input to_subject) (Part.State unit) (whole_amount n) =
    rw (account_sound b d.form f low-f here_f (sized (not back)) 1, account_sound b d.form g low-g here_g (sized back) 2, its-layout)
    (rw (account_seen b d.form f low-f here_f (sized (not back)), account_seen b d.form g low-g here_g (sized back)) (end_is_credit b t back (field sent) few named h its_subject its-amount)) in
    written (credit_of 15 (sheet_at b f) (sheet_at b g) sent) (sheet_at b f) sent (Part.Input to_subject) (Part.State unit) (whole_amount n) old makes
    ∙ ap (λ (x : List ℕ). put_into x old)
    (rw (its_subject, account_fields b d.form f low-f here_f (sized (not back)) unit, d.left, transfer_apart (set_credits b g n) t 0 blank_transfer g) (sym (record_sheet b g _ size low-g)))

-- The record of a finished or cancelled transfer is zeros, and its number is free again. Premises: 8 transfers; the step is accepted.
pub ended_is_zeros : (b : Book) (t : ℕ) (back : Bool) → length b.transfers ≡ 8 → answer b (ending t back) ≡ Ok tt
    → (transfer_record (next b (ending t back)) t ≡ blank_transfer) × (transfer_at (next b (ending t back)) t ≡ none)
unfolding transfer_record transfer_at set_record set_transfer
ended_is_zeros b t back size h =
    let d : Ended b t back = ended b t back h in (
      rw d.left (get_or-set_same b.transfers t blank_transfer no_transfer (rw size d.facts.low)),
      rw d.left (entry_drop no_transfer b.pending b.transfers t blank_transfer).there,
    )

-- ---- the premises of begin, finish and cancel can be met: the book that the second worked session leaves, in which `N1` holds 3 and `N2` holds 9,
-- and 6 are on their way from `N1` to `N2`

-- an amount of one digit, and to_subject `N` and a digit
abbrev sending : ℕ → ℕ → List ℕ
sending digit name = encode (item 7 1 (digit ∷ []) ∷ item 8 1 (78 ∷ name ∷ []) ∷ [])

abbrev to_second : ℕ → List ℕ
to_second digit = sending digit 50

to_second_fields : SentTo second_left 1 (asking 51) (to_second 51)
unfolding field lookup entries_from entry_at encode place_record name_bytes name_of zeros
to_second_fields n = go (ℕ_discrete n 7) (ℕ_discrete n 8)
  where
    go : Dec (n ≡ 7) → Dec (n ≡ 8) → field (to_second 51) n ≡ put_field (field (asking 51)) to_subject (text (name_bytes (place_record second_left 1).subject)) n
    go (yes e) d = rw e
    go (no c) (yes e) = rw e
    go (no c) (no d) = rw (ne_eqb 7 n (λ e. c (sym e)), ne_eqb 8 n (λ e. d (sym e)), ne_eqb n 8 d)

named : (Named second_left 0) × (Named second_left 1)
unfolding place_record name_of zeros
named = (record { unit = refl; subject = refl }, record { unit = refl; subject = refl })

sized : (Sized (place_record second_left 0).balance) × (Sized (place_record second_left 1).balance)
unfolding place_record halves
sized = (record { lo = omega arith; hi = omega arith }, record { lo = omega arith; hi = omega arith })

sized_ends : (k : Bool) → Sized (place_record second_left (end second_left 2 k)).balance
unfolding transfer_record
sized_ends true = sized.0
sized_ends false = sized.1

layouts : (sound_as Input (to_second 51) ≡ true) × (sound_as Input (to_second 54) ≡ true) × (sound_as Input (sending 54 49) ≡ true)
unfolding sound_as every sum prior entry_at encode
layouts = (refl, refl, refl)

-- 6 to the subject of a place
Carries : ℕ → List ℕ → Type 0
Carries p sent = (field sent to_subject ≡ text (name_bytes (place_record second_left p).subject)) × (amount_in amount (field sent amount) ≡ Ok (whole_amount 6))

carried : Carries 1 (to_second 54) × Carries 0 (sending 54 49)
unfolding Carries field lookup entries_from entry_at encode place_record name_bytes name_of zeros limit all_digits digits_after decimal amount_if read_of marked parsed amount_by
carried = ((refl, refl), (refl, refl))

-- the begin of 3 more by `N1`
pub begin_writes_worked : (old : List ℕ)
    → buffer_after (next_of 2 15 (sheet_at second_left 0) (to_second 51)) (sheet_at second_left 0) (to_second 51) old ≡ put_into (sheet_at (next second_left (Begin 0 1 0 (asking 51))) 0) old
begin_writes_worked = begin_writes_its_sheet second_left (asking 51) 0 1 0 refl named.0 sized.0 answered.7 (to_second 51) to_second_fields layouts.0

-- the finish of the 6
pub finish_writes_worked : (old : List ℕ)
    → buffer_after (credit_of 15 (sheet_at second_left 0) (sheet_at second_left 1) (to_second 54)) (sheet_at second_left 0) (to_second 54) old ≡ put_into (sheet_at (next second_left (Finish 2)) 1) old
unfolding transfer_record Carries
finish_writes_worked = end_writes_its_sheet second_left 2 false refl (omega arith) named.1 sized_ends answered.8 (to_second 54) layouts.1 carried.0.0 carried.0.1

-- their cancel
pub cancel_writes_worked : (old : List ℕ)
    → buffer_after (credit_of 15 (sheet_at second_left 1) (sheet_at second_left 0) (sending 54 49)) (sheet_at second_left 1) (sending 54 49) old ≡ put_into (sheet_at (next second_left (Cancel 2)) 0) old
unfolding transfer_record Carries
cancel_writes_worked = end_writes_its_sheet second_left 2 true refl (omega arith) named.0 sized_ends answered.9 (sending 54 49) layouts.2 carried.1.0 carried.1.1
