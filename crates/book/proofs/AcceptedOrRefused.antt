-- The book's own refusals, and their order where two apply at once, computed from bytes: a table of steps on one book and what each
-- answers, worked out by hand from documents 01 and 02. A definition that forgets a test or has two in another order is refused here by a row, and
-- first here, since the prover goes by the names of the files.
use mathlib.Core.Path.{◌≡◌, refl}
use mathlib.Core.Bool.{false}
use mathlib.Core.List.{List, [], ◌∷◌, ◌++◌, map}
use Prim.Native.Nat.{ℕ}
use lib.ListN.{replicate}
use Rattle.amount.specs.Numbers.{val, limit, halves, order_of}
use Rattle.amount.specs.Decimal.{all_digits, digits_after, decimal}
use Rattle.amount.specs.Amounts.{amount_if, read_of, compare_of}
use Rattle.amount.specs.Canonical.{zeros}
use Rattle.amount.specs.declared.Amount.{Amount}
use Rattle.sheet.specs.Walk.{every, sum, prior}
use Rattle.sheet.specs.Sheet.{entry_at, entries_from, lookup, sound_as}
use Rattle.sheet.specs.Fields.{field}
use Rattle.writer.specs.Encode.{encode, item}
use Rattle.registry.specs.Readers.{text_in, bytes_of, marked, parsed, amount_by, amount_of}
use Rattle.registry.specs.Tests.{state_absent, state_there, above_zero, held_by}
use Rattle.registry.specs.declared.error.Answer.{Answer}
use Rattle.profiles.specs.Balance.{balance_rules}
use Rattle.book.specs.Sets.{bit, entry, any}
use Rattle.book.specs.Refusals.{book_answer_of}
use Rattle.book.specs.Book.{whole_amount, name_bytes, name_of, blank_name, blank_place, blank_transfer, place_record, transfer_record, place_at, transfer_at, stocks, credits_under_way, total, awaited, name_ok, is_well_formed, open_place, set_subject, set_balance, set_reserved, set_unit, set_places}
use Rattle.book.specs.Steps.{Step, Open, Act, Begin, Finish, Cancel, Close, credits_in, bytes_in, adds, acts, doing, tests_open, tests_act, tests_begin, tests_finish, tests_close, seen, answer, next}
use Rattle.book.specs.declared.Name.{Name}
use Rattle.book.specs.declared.Place.{Place}
use Rattle.book.specs.declared.Book.{Book}
use Rattle.book.proofs.Worked.{unit, asking, account, account_with, left, second_left}
use Rattle.std.specs.Prelude.{Ok}

-- ---- sheets

-- one of no bytes is torn
abbrev torn : List ℕ
torn = []

-- open's: subject, unit, balance
abbrev opening : List ℕ → List ℕ → List ℕ → List ℕ
opening subject unit balance = encode (item 1 1 subject ∷ item 2 1 unit ∷ item 4 1 balance ∷ [])

-- one without a balance
abbrev no_balance : List ℕ → List ℕ → List ℕ
no_balance subject unit = encode (item 1 1 subject ∷ item 2 1 unit ∷ [])

-- an amount, in digits
abbrev amounting : List ℕ → List ℕ
amounting amount = encode (item 7 1 amount ∷ [])

-- an amount, and an empty to_subject
abbrev to_nobody : ℕ → List ℕ
to_nobody digit = encode (item 7 1 (digit ∷ []) ∷ item 8 1 [] ∷ [])

-- `N3`; `xx`, which is not the book's unit `rd`; `5`
abbrev name : List ℕ
name = 78 ∷ 51 ∷ []

abbrev other_unit : List ℕ
other_unit = 120 ∷ 120 ∷ []

abbrev five : List ℕ
five = 53 ∷ []

-- n times `N`
abbrev long : ℕ → List ℕ
long n = replicate n 78

-- 2^128 - 1 ends in 455: its first 37 digits, and two more. 18 less, which is what the book has room for, ends in 437
abbrev most : ℕ → ℕ → List ℕ
most x y =
    51 ∷ 52 ∷ 48 ∷ 50 ∷ 56 ∷ 50 ∷ 51 ∷ 54 ∷ 54 ∷ 57 ∷ 50 ∷ 48 ∷ 57 ∷ 51 ∷ 56 ∷ 52 ∷ 54 ∷ 51 ∷ 52 ∷ 54 ∷ 51 ∷ 51 ∷ 55 ∷ 52 ∷ 54 ∷ 48 ∷ 55
    ∷ 52 ∷ 51 ∷ 49 ∷ 55 ∷ 54 ∷ 56 ∷ 50 ∷ 49 ∷ 49 ∷ 52 ∷ x ∷ y ∷ []

-- ---- the book: places 0 (`N1` holds 3) and 1 (`N2` holds 9) are open, transfer 2 is under way with 6 from 0 to 1, the total is 18

-- a step and its answer, by number and detail; the amounts of 15 are in Worked
pub record Said : Type 0 where
  pub number : ℕ
  pub detail : ℕ

pub record Row : Type 0 where
  pub step : Step
  pub said : Said

abbrev row : Step → ℕ → ℕ → Row
row s number detail = record { step = s; said = record { number = number; detail = detail } }

abbrev opens : List Row
opens =
    row (Open 15 (opening name unit five)) 0 0
    ∷ row (Open 16 (opening name unit five)) 22 0
    ∷ row (Open 0 (opening name unit five)) 5 0
    ∷ row (Open 2 torn) 2 0
    ∷ row (Open 2 (no_balance name unit)) 7 4
    ∷ row (Open 2 (opening name other_unit five)) 26 0
    ∷ row (Open 2 (opening (long 33) unit five)) 27 1
    ∷ row (Open 2 (opening (long 32) unit five)) 0 0
    ∷ row (Open 2 (opening name unit (most 51 56))) 25 0
    ∷ row (Open 2 (opening name unit (most 51 55))) 0 0
    -- 22 and 5 before 2, 2 before the check, the check before 26, 26 before 27, 27 before 25. (No place above 15 is open, so 22 and 5 never
    -- apply at once)
    ∷ row (Open 16 torn) 22 0
    ∷ row (Open 0 torn) 5 0
    ∷ row (Open 2 (no_balance name other_unit)) 7 4
    ∷ row (Open 2 (opening (long 33) other_unit five)) 26 0
    ∷ row (Open 2 (opening (long 33) unit (most 53 53))) 27 1
    ∷ []

abbrev acting : List Row
acting =
    row (Act 0 13 (amounting five)) 0 0
    ∷ row (Act 16 13 (amounting five)) 22 0
    ∷ row (Act 2 13 (amounting five)) 6 0
    ∷ row (Act 0 13 torn) 2 0
    ∷ row (Act 0 11 (amounting five)) 4 0
    ∷ row (Act 0 15 (amounting five)) 4 0
    ∷ row (Act 0 20 (amounting five)) 4 0
    ∷ row (Act 0 13 (amounting (48 ∷ []))) 14 0
    ∷ row (Act 0 13 (amounting (most 51 56))) 25 0
    ∷ row (Act 0 13 (amounting (most 51 55))) 0 0
    -- request 5: nothing is reserved
    ∷ row (Act 0 16 (amounting (51 ∷ []))) 0 0
    ∷ row (Act 0 16 (amounting five)) 15 0
    ∷ row (Act 0 17 (amounting (49 ∷ []))) 31 0
    -- 22 before 6 (above) and 2, 6 before 2 and 4, 2 before 4, 4 before the check (15 lacks a to_subject, above), the check before 25 (a mint
    -- that nobody authorized). No row can show 31 behind the check: an amount that the check of a release refuses counts as 0, and so much is there
    ∷ row (Act 0 17 (amounting (48 ∷ []))) 14 0
    ∷ row (Act 0 17 torn) 2 0
    ∷ row (Act 16 13 torn) 22 0
    ∷ row (Act 2 13 torn) 6 0
    ∷ row (Act 2 11 (amounting five)) 6 0
    ∷ row (Act 0 11 torn) 2 0
    ∷ row (Act 0 12 (amounting (most 53 53))) 7 10
    ∷ []

abbrev beginning : List Row
beginning =
    row (Begin 0 1 7 (asking 51)) 0 0
    ∷ row (Begin 16 1 0 (asking 51)) 22 0
    ∷ row (Begin 0 16 0 (asking 51)) 22 0
    ∷ row (Begin 0 1 8 (asking 51)) 22 0
    ∷ row (Begin 0 0 0 (asking 51)) 24 0
    ∷ row (Begin 0 1 2 (asking 51)) 21 0
    ∷ row (Begin 2 1 0 (asking 51)) 6 0
    ∷ row (Begin 0 2 0 (asking 51)) 6 0
    ∷ row (Begin 0 1 0 torn) 2 0
    ∷ row (Begin 0 1 0 (asking 52)) 15 0
    -- the sheet's own to_subject is not looked at
    ∷ row (Begin 0 1 0 (to_nobody 51)) 0 0
    -- 22 before 6 (above), 24 and 21, 24 before 21 and 6, 21 before 6, 6 of either place before 2, 2 before the check (above)
    ∷ row (Begin 16 16 0 (asking 51)) 22 0
    ∷ row (Begin 0 16 2 (asking 51)) 22 0
    ∷ row (Begin 0 0 2 (asking 51)) 24 0
    ∷ row (Begin 2 2 0 (asking 51)) 24 0
    ∷ row (Begin 0 3 2 (asking 51)) 21 0
    ∷ row (Begin 2 1 0 torn) 6 0
    ∷ row (Begin 0 2 0 torn) 6 0
    ∷ []

-- 22 before 23: 8 is not under way
abbrev finishing : List Row
finishing = row (Finish 2) 0 0 ∷ row (Finish 8) 22 0 ∷ row (Finish 0) 23 0 ∷ []

abbrev cancelling : List Row
cancelling = row (Cancel 2) 0 0 ∷ row (Cancel 8) 22 0 ∷ row (Cancel 0) 23 0 ∷ []

-- document 02, request 2. 22 before 6: place 16 is not open. 29 before 30: the transfer names both places
abbrev closing : List Row
closing = row (Close 16) 22 0 ∷ row (Close 2) 6 0 ∷ row (Close 0) 29 0 ∷ row (Close 1) 29 0 ∷ []

-- both places are empty, and the transfer between them is under way or not
abbrev emptied : ℕ → Book
emptied pending =
    left (account 49 0) (account 50 0) pending (blank_transfer ∷ blank_transfer ∷ record { from = 0; to = 1; amount = whole_amount 6 } ∷ replicate 5 blank_transfer)

-- 30 at the source's end and at the destination's; of a transfer that is not under way none
abbrev awaiting : List Row
awaiting = row (Close 0) 30 0 ∷ row (Close 1) 30 0 ∷ []

abbrev leaving : List Row
leaving = row (Close 0) 0 0 ∷ row (Close 1) 0 0 ∷ []

-- ---- books that meet 28

-- names of no bytes and of 33; an amount of scale 1
abbrev names : List Name
names = blank_name ∷ record { bytes = zeros 32; len = 33 } ∷ []

abbrev tenth : Amount
tenth = record { mantissa = halves 1; scale = 1 }

-- the book with other places, or another transfer 2, under way or not
abbrev with_places : Place → Place → Place → Book
with_places x y z = set_places second_left (x ∷ y ∷ z ∷ replicate 13 blank_place)

abbrev with_transfer : ℕ → ℕ → ℕ → Amount → Book
with_transfer pending from to a =
    left (account 49 3) (account 50 9) pending (blank_transfer ∷ blank_transfer ∷ record { from = from; to = to; amount = a } ∷ replicate 5 blank_transfer)

-- in order: a total of 2^128, by what is held, by what is reserved and by what is under way; a unit and a subject, each empty and too long; a scale
-- of 1 in a place that is open and in one that is closed, of the balance and of what is reserved, and in a transfer that is under way and one that
-- is not; a transfer from, and to, a place that is not open
abbrev bad_books : List Book
bad_books =
    with_places (account 49 340282366920938463463374607431768211441) (account 50 9) blank_place
    ∷ with_places (account_with 49 3 340282366920938463463374607431768211438) (account 50 9) blank_place
    ∷ with_transfer 4 0 1 (whole_amount 340282366920938463463374607431768211444)
    ∷ (map (set_unit second_left) names
    ++ map (λ n. with_places (set_subject (account 49 3) n) (account 50 9) blank_place) names
    ++ (
    with_places (set_balance (account 49 3) tenth) (account 50 9) blank_place
    ∷ with_places (account 49 3) (account 50 9) (set_balance blank_place tenth)
    ∷ with_places (set_reserved (account 49 3) tenth) (account 50 9) blank_place
    ∷ with_places (account 49 3) (account 50 9) (set_reserved blank_place tenth)
    ∷ with_transfer 4 0 1 tenth
    ∷ with_transfer 0 0 1 tenth
    ∷ with_transfer 4 2 1 (whole_amount 6)
    ∷ with_transfer 4 0 2 (whole_amount 6)
    ∷ []
    ))

-- a book with the largest total there is has no fault: 25 is for steps that issue, and for those alone
abbrev full_book : Book
full_book = with_transfer 4 0 1 (whole_amount 340282366920938463463374607431768211443)

abbrev on_full : List Row
on_full =
    row (Open 2 (opening name unit (48 ∷ []))) 0 0
    ∷ row (Open 2 (opening name unit (49 ∷ []))) 25 0
    ∷ row (Act 0 13 (asking 49)) 25 0
    ∷ row (Act 0 17 (asking 49)) 31 0
    ∷ row (Act 0 16 (asking 49)) 0 0
    ∷ row (Act 0 18 (asking 51)) 0 0
    ∷ row (Begin 0 1 0 (asking 51)) 0 0
    ∷ row (Finish 2) 0 0
    ∷ row (Cancel 2) 0 0
    ∷ row (Close 0) 29 0
    ∷ []

-- the same total, all but 15 of it reserved by a place that holds nothing: a release meets no 25
abbrev reserved_book : Book
reserved_book = with_places (account_with 49 0 340282366920938463463374607431768211440) (account 50 9) blank_place

abbrev on_reserved : List Row
on_reserved =
    row (Act 0 17 (asking 49)) 0 0
    ∷ row (Act 0 17 (amounting (most 52 48))) 0 0
    ∷ row (Act 0 17 (amounting (most 52 49))) 31 0
    ∷ row (Act 0 18 (asking 49)) 15 0
    ∷ row (Act 1 13 (asking 49)) 25 0
    ∷ row (Open 2 (opening name unit (49 ∷ []))) 25 0
    ∷ row (Close 0) 29 0
    ∷ []

-- a closed place whose record has credits and a reserved amount, as no step leaves one: an open keeps neither
abbrev stale_book : Book
stale_book = with_places (account 49 3) (account 50 9) (account_with 51 7 8)

-- 28 comes before any other
abbrev on_bad : List Row
on_bad = row (Open 16 torn) 28 0 ∷ row (Act 16 0 torn) 28 0 ∷ row (Begin 16 16 8 torn) 28 0 ∷ row (Finish 8) 28 0 ∷ row (Cancel 8) 28 0 ∷ row (Close 16) 28 0 ∷ []

-- ---- computed

abbrev said_by_lem : Answer → Said
said_by_lem a = record { number = a.number; detail = a.detail }

abbrev Answers : Book → List Row → Type 0
Answers b rows = map (λ r. said_by_lem (book_answer_of (answer b r.step))) rows ≡ map (λ r. r.said) rows

pub answered : Answers second_left opens × Answers second_left acting × Answers second_left beginning × Answers second_left finishing × Answers second_left cancelling
    × Answers full_book on_full × Answers (with_transfer 0 0 1 tenth) on_bad
    × (answer second_left (Begin 0 1 0 (asking 51)) ≡ Ok tt) × (answer second_left (Finish 2) ≡ Ok tt)
    × (answer second_left (Cancel 2) ≡ Ok tt)
unfolding val limit halves order_of all_digits digits_after decimal amount_if read_of compare_of zeros every sum prior entry_at entries_from lookup sound_as field encode text_in bytes_of marked parsed amount_by amount_of state_absent state_there above_zero held_by balance_rules bit entry name_bytes name_of blank_name blank_place blank_transfer place_record transfer_record place_at transfer_at stocks credits_under_way total any awaited name_ok is_well_formed credits_in bytes_in adds acts doing tests_open tests_act tests_begin tests_finish tests_close seen answer
answered = (refl, refl, refl, refl, refl, refl, refl, refl, refl, refl)

pub reserve_answered : Answers reserved_book on_reserved
unfolding val limit halves order_of all_digits digits_after decimal amount_if read_of compare_of zeros every sum prior entry_at entries_from lookup sound_as field encode text_in bytes_of marked parsed amount_by amount_of state_absent state_there above_zero held_by balance_rules bit entry name_bytes name_of blank_name blank_place blank_transfer place_record transfer_record place_at transfer_at stocks credits_under_way total any awaited name_ok is_well_formed credits_in bytes_in adds acts doing tests_open tests_act tests_begin tests_finish tests_close seen answer
reserve_answered = refl

pub open_clears : place_record (next stale_book (Open 2 (opening (78 ∷ 51 ∷ []) unit (50 ∷ [])))) 2 ≡ account 51 2
unfolding val limit halves order_of all_digits digits_after decimal amount_if read_of compare_of zeros every sum prior entry_at entries_from lookup sound_as field encode text_in bytes_of marked parsed amount_by amount_of state_absent state_there above_zero held_by balance_rules bit entry name_bytes name_of blank_name blank_place blank_transfer place_record transfer_record place_at transfer_at stocks credits_under_way total any awaited name_ok is_well_formed credits_in bytes_in adds acts doing tests_open tests_act tests_begin tests_finish tests_close seen answer next open_place
open_clears = refl

pub close_answered : Answers second_left closing × Answers (emptied 4) awaiting × Answers (emptied 0) leaving
unfolding val limit halves zeros every sum any bit entry name_bytes name_of blank_name blank_place blank_transfer place_record transfer_record place_at transfer_at stocks credits_under_way total awaited name_ok is_well_formed tests_close seen answer
close_answered = (refl, refl, refl)

pub bad : map is_well_formed bad_books ≡ replicate 15 false
unfolding val limit halves zeros every sum bit entry name_of blank_name blank_place blank_transfer place_record transfer_record place_at transfer_at stocks credits_under_way total name_ok is_well_formed
bad = refl
