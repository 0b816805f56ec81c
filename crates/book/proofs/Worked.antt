-- Sessions computed on the definitions, their sheets as bytes: document 01's worked session, one with acts that ends with a transfer under
-- way, two with cancels, two with closes and two with reserved amounts. What is expected is worked out by hand from the documents.
use mathlib.Core.Path.{◌≡◌, refl}
use mathlib.Core.List.{List, [], ◌∷◌, map}
use mathlib.Core.Option.{Option, some, none}
use Prim.Native.Nat.{ℕ}
use lib.ListN.{replicate}
use Rattle.amount.specs.Numbers.{val, limit, halves, order_of}
use Rattle.amount.specs.Decimal.{all_digits, digits_after, decimal}
use Rattle.amount.specs.Amounts.{amount_if, read_of, compare_of}
use Rattle.amount.specs.Canonical.{zeros}
use Rattle.sheet.specs.Walk.{every, sum, prior}
use Rattle.sheet.specs.Sheet.{entry_at, entries_from, lookup, sound_as}
use Rattle.sheet.specs.Fields.{field}
use Rattle.registry.specs.Refusals.{numbered}
use Rattle.registry.specs.Readers.{text_in, bytes_of, marked, parsed, amount_by, amount_of}
use Rattle.registry.specs.Tests.{state_absent, state_there, above_zero, held_by}
use Rattle.registry.specs.declared.error.Answer.{Answer}
use Rattle.profiles.specs.Balance.{balance_rules}
use Rattle.book.specs.Sets.{bit, with_bit, entry, any}
use Rattle.book.specs.Refusals.{book_answer_of}
use Rattle.book.specs.Book.{whole_amount, name_bytes, name_of, blank_name, blank_place, blank_transfer, blank_book, place_record, transfer_record, place_at, transfer_at, stocks, credits_under_way, total, awaited, name_ok, is_well_formed, set_opened, open_place, close_place, set_record, set_transfer}
use Rattle.book.specs.Steps.{Step, Open, Act, Begin, Finish, Cancel, Close, credits_in, bytes_in, adds, acts, doing, tests_open, tests_act, tests_begin, tests_finish, tests_close, seen, answer, next, start_answer, start_book}
use Rattle.book.specs.Plain.{Holding}
use Rattle.book.specs.Claim.{run, cell_at}
use Rattle.book.specs.declared.Place.{Place}
use Rattle.book.specs.declared.Transfer.{Transfer}
use Rattle.book.specs.declared.Book.{Book}

-- ---- sheets

-- `rd`
abbrev pub unit : List ℕ
unit = 114 ∷ 100 ∷ []

-- subject `N` and a digit, unit `rd`, balance a digit: three texts under 1, 2 and 4, their bodies from byte 19 on
abbrev pub opening : ℕ → ℕ → List ℕ
opening name digit =
    3 ∷ 1 ∷ 1 ∷ 19 ∷ 0 ∷ 2 ∷ 0 ∷ 2 ∷ 1 ∷ 21 ∷ 0 ∷ 2 ∷ 0 ∷ 4 ∷ 1 ∷ 23 ∷ 0 ∷ 1 ∷ 0 ∷ 78 ∷ name ∷ 114 ∷ 100 ∷ digit ∷ []

-- amount a digit: one text under 7
abbrev pub asking : ℕ → List ℕ
asking digit = 1 ∷ 7 ∷ 1 ∷ 7 ∷ 0 ∷ 1 ∷ 0 ∷ digit ∷ []

abbrev pub five : List ℕ
five = asking 53

-- an amount of a digit, and authorized_by `A`: a second text, under 10
abbrev pub allowed : ℕ → List ℕ
allowed digit = 2 ∷ 7 ∷ 1 ∷ 13 ∷ 0 ∷ 1 ∷ 0 ∷ 10 ∷ 1 ∷ 14 ∷ 0 ∷ 1 ∷ 0 ∷ digit ∷ 65 ∷ []

-- ---- what is computed

abbrev pub answers : Book → List Step → List Answer
answers b [] = []
answers b (s ∷ ss) = book_answer_of (answer b s) ∷ answers (next b s) ss

abbrev pub done : Answer
done = numbered 0 0

abbrev pub short : ℕ → ℕ → Answer
short held asked = record { number = 15; detail = 0; available = whole_amount held; requested = whole_amount asked; length = 0 }

-- a place whose subject is `N` and a digit, and which has r reserved
abbrev pub account_with : ℕ → ℕ → ℕ → Place
account_with name n r = record { subject = name_of (78 ∷ name ∷ []); balance = whole_amount n; reserved = whole_amount r }

abbrev pub account : ℕ → ℕ → Place
account name n = account_with name n 0

-- what is shown of it
abbrev pub shows_with : ℕ → ℕ → ℕ → Option Holding
shows_with name n r = some (record { subject = 78 ∷ name ∷ []; balance = n; reserved = r })

abbrev pub shows : ℕ → ℕ → Option Holding
shows name n = shows_with name n 0

-- the book with places 0 and 1 open
abbrev pub left : Place → Place → ℕ → List Transfer → Book
left x y pending ts = record { unit = name_of unit; opened = 3; pending = pending; places = x ∷ y ∷ replicate 14 blank_place; transfers = ts }

-- from a fresh book of `rd` these steps answer so and leave this book, whose places 0 and 1 are so
abbrev pub Worked : List Step → List Answer → Book → List (Option Holding) → Type 0
Worked ss said b cells =
    (answers (start_book unit) ss ≡ said) × (run (start_book unit) ss ≡ b) × (map (cell_at b) (0 ∷ 1 ∷ []) ≡ cells)

-- ---- document 01's session

abbrev pub session : List Step
session = Open 0 (opening 49 53) ∷ Open 1 (opening 50 48) ∷ Begin 0 1 0 five ∷ Begin 1 0 1 five ∷ Finish 0 ∷ []

abbrev pub session_left : Book
session_left = left (account 49 0) (account 50 5) 0 (replicate 8 blank_transfer)

-- the answers are 0, 0, 0, 15 (none held, 5 asked), 0; then `N1` holds 0 and `N2` holds 5, and nothing is under way
pub worked : Worked session (done ∷ done ∷ done ∷ short 0 5 ∷ done ∷ []) session_left (shows 49 0 ∷ shows 50 5 ∷ [])
unfolding val limit halves order_of all_digits digits_after decimal amount_if read_of compare_of zeros every sum prior entry_at entries_from lookup sound_as field text_in bytes_of marked parsed amount_by amount_of state_absent state_there above_zero held_by balance_rules bit with_bit entry name_bytes name_of blank_name blank_place blank_transfer blank_book place_record transfer_record place_at transfer_at stocks credits_under_way total name_ok is_well_formed open_place set_record set_transfer credits_in bytes_in tests_open tests_begin tests_finish seen answer next start_answer start_book
worked = (refl, refl, refl)

-- ---- a second session: `N1` is opened with 5 and `N2` with 2; `N1` is credited 4 and holds 9; 3 spent by `N2` are short of its 2; a mint of 7
-- to `N2` that nobody authorized lacks name 10; one that `A` authorized makes it 9; and 6 are on their way from `N1`, which holds 3, as
-- transfer 2

abbrev pub second : List Step
second =
    Open 0 (opening 49 53) ∷ Open 1 (opening 50 50) ∷ Act 0 13 (asking 52) ∷ Act 1 18 (asking 51) ∷ Act 1 12 (asking 55)
    ∷ Act 1 12 (allowed 55) ∷ Begin 0 1 2 (asking 54) ∷ []

abbrev pub second_left : Book
second_left =
    left (account 49 3) (account 50 9) 4
    (blank_transfer ∷ blank_transfer ∷ record { from = 0; to = 1; amount = whole_amount 6 } ∷ replicate 5 blank_transfer)

pub second_worked : Worked second (done ∷ done ∷ done ∷ short 2 3 ∷ numbered 7 10 ∷ done ∷ done ∷ []) second_left (shows 49 3 ∷ shows 50 9 ∷ [])
unfolding val limit halves order_of all_digits digits_after decimal amount_if read_of compare_of zeros every sum prior entry_at entries_from lookup sound_as field text_in bytes_of marked parsed amount_by amount_of state_absent state_there above_zero held_by balance_rules bit with_bit entry name_bytes name_of blank_name blank_place blank_transfer blank_book place_record transfer_record place_at transfer_at stocks credits_under_way total name_ok is_well_formed open_place set_record set_transfer credits_in bytes_in adds acts doing tests_open tests_act tests_begin seen answer next start_answer start_book
second_worked = (refl, refl, refl)

-- ---- document 02, request 1. `N1` holds 5 and sends them by number 0; they are cancelled, and `N1` holds 5 again; a second cancel finds
-- nothing under way. By the same number 3 are sent, and finished; then 2, and cancelled

abbrev pub again : List Step
again =
    Open 0 (opening 49 53) ∷ Open 1 (opening 50 48) ∷ Begin 0 1 0 five ∷ Cancel 0 ∷ Cancel 0 ∷ Begin 0 1 0 (asking 51) ∷ Finish 0
    ∷ Begin 0 1 0 (asking 50) ∷ Cancel 0 ∷ []

pub again_worked : Worked again (done ∷ done ∷ done ∷ done ∷ numbered 23 0 ∷ done ∷ done ∷ done ∷ done ∷ []) (left (account 49 2) (account 50 3) 0 (replicate 8 blank_transfer))
    (shows 49 2 ∷ shows 50 3 ∷ [])
unfolding val limit halves order_of all_digits digits_after decimal amount_if read_of compare_of zeros every sum prior entry_at entries_from lookup sound_as field text_in bytes_of marked parsed amount_by amount_of state_absent state_there above_zero held_by balance_rules bit with_bit entry name_bytes name_of blank_name blank_place blank_transfer blank_book place_record transfer_record place_at transfer_at stocks credits_under_way total name_ok is_well_formed open_place set_record set_transfer credits_in bytes_in adds acts doing tests_open tests_act tests_begin tests_finish seen answer next start_answer start_book
again_worked = (refl, refl, refl)

-- two transfers overlap: 5 from `N1` to `N2` by number 0, 3 from `N2` to `N1` by number 1. The first is finished, and `N2` spends 4 of the 5; then the
-- second is cancelled, and its 3 are back at `N2`, which holds 4

abbrev pub crossed : List Step
crossed =
    Open 0 (opening 49 53) ∷ Open 1 (opening 50 51) ∷ Begin 0 1 0 five ∷ Begin 1 0 1 (asking 51) ∷ Finish 0 ∷ Act 1 18 (asking 52) ∷ Cancel 1 ∷ []

pub crossed_worked : Worked crossed (done ∷ done ∷ done ∷ done ∷ done ∷ done ∷ done ∷ []) (left (account 49 0) (account 50 4) 0 (replicate 8 blank_transfer))
    (shows 49 0 ∷ shows 50 4 ∷ [])
unfolding val limit halves order_of all_digits digits_after decimal amount_if read_of compare_of zeros every sum prior entry_at entries_from lookup sound_as field text_in bytes_of marked parsed amount_by amount_of state_absent state_there above_zero held_by balance_rules bit with_bit entry name_bytes name_of blank_name blank_place blank_transfer blank_book place_record transfer_record place_at transfer_at stocks credits_under_way total name_ok is_well_formed open_place set_record set_transfer credits_in bytes_in adds acts doing tests_open tests_act tests_begin tests_finish seen answer next start_answer start_book
crossed_worked = (refl, refl, refl)

-- ---- document 02, request 2. `N1` sends `N2` 3 of its 5 by number 0, and the other 2 by number 1. Its place can't be closed while it holds 2
-- (29, though a transfer names it too), and neither place while it holds nothing and a transfer is to come from it or to it (30). The first is
-- finished, and the second would still come back (30): it is cancelled, and `N1` holds 2 (29). These are spent, and place 0 is closed; it can't be
-- closed again (6), and is opened for `N3` with 2

abbrev pub leaving : List Step
leaving =
    Open 0 (opening 49 53) ∷ Open 1 (opening 50 48) ∷ Begin 0 1 0 (asking 51) ∷ Close 0 ∷ Begin 0 1 1 (asking 50) ∷ Close 0 ∷ Close 1
    ∷ Finish 0 ∷ Close 0 ∷ Cancel 1 ∷ Close 0 ∷ Act 0 18 (asking 50) ∷ Close 0 ∷ Close 0 ∷ Open 0 (opening 51 50) ∷ []

pub leaving_worked : Worked leaving
    (
    done ∷ done ∷ done ∷ numbered 29 0 ∷ done ∷ numbered 30 0 ∷ numbered 30 0
    ∷ done ∷ numbered 30 0 ∷ done ∷ numbered 29 0 ∷ done ∷ done ∷ numbered 6 0 ∷ done ∷ []
    )
    (left (account 51 2) (account 50 3) 0 (replicate 8 blank_transfer)) (shows 51 2 ∷ shows 50 3 ∷ [])
unfolding val limit halves order_of all_digits digits_after decimal amount_if read_of compare_of zeros every sum any prior entry_at entries_from lookup sound_as field text_in bytes_of marked parsed amount_by amount_of state_absent state_there above_zero held_by balance_rules bit with_bit entry name_bytes name_of blank_name blank_place blank_transfer blank_book place_record transfer_record place_at transfer_at stocks credits_under_way total awaited name_ok is_well_formed open_place close_place set_record set_transfer credits_in bytes_in adds acts doing tests_open tests_act tests_begin tests_finish tests_close seen answer next start_answer start_book
leaving_worked = (refl, refl, refl)

-- `N1` sends all that it holds, and leaves: its place is closed, its record zeros

abbrev pub left_alone : List Step
left_alone = Open 0 (opening 49 53) ∷ Open 1 (opening 50 48) ∷ Begin 0 1 0 five ∷ Finish 0 ∷ Close 0 ∷ []

abbrev pub one_open : Book
one_open = set_opened (left blank_place (account 50 5) 0 (replicate 8 blank_transfer)) 2

pub left_alone_worked : Worked left_alone (done ∷ done ∷ done ∷ done ∷ done ∷ []) one_open (none ∷ shows 50 5 ∷ [])
unfolding val limit halves order_of all_digits digits_after decimal amount_if read_of compare_of zeros every sum any prior entry_at entries_from lookup sound_as field text_in bytes_of marked parsed amount_by amount_of state_absent state_there above_zero held_by balance_rules bit with_bit entry name_bytes name_of blank_name blank_place blank_transfer blank_book place_record transfer_record place_at transfer_at stocks credits_under_way total awaited name_ok is_well_formed open_place close_place set_record set_transfer credits_in bytes_in tests_open tests_begin tests_finish tests_close seen answer next start_answer start_book
left_alone_worked = (refl, refl, refl)

-- ---- document 02, request 5. `N1` holds 5 and reserves 3: it holds 2. It sends these to `N2`, and can send no more; a release of 4 is refused (31),
-- of 1 accepted. So it holds 1 and has 2 reserved, and 2 are under way

abbrev pub reserving : List Step
reserving =
    Open 0 (opening 49 53) ∷ Open 1 (opening 50 48) ∷ Act 0 16 (asking 51) ∷ Begin 0 1 0 (asking 50) ∷ Begin 0 1 1 (asking 49) ∷ Act 0 17 (asking 52)
    ∷ Act 0 17 (asking 49) ∷ []

abbrev pub reserving_left : Book
reserving_left =
    left (account_with 49 1 2) (account 50 0) 1 (record { from = 0; to = 1; amount = whole_amount 2 } ∷ replicate 7 blank_transfer)

pub reserving_worked : Worked reserving (done ∷ done ∷ done ∷ done ∷ short 0 1 ∷ numbered 31 0 ∷ done ∷ []) reserving_left (shows_with 49 1 2 ∷ shows 50 0 ∷ [])
unfolding val limit halves order_of all_digits digits_after decimal amount_if read_of compare_of zeros every sum any prior entry_at entries_from lookup sound_as field text_in bytes_of marked parsed amount_by amount_of state_absent state_there above_zero held_by balance_rules bit with_bit entry name_bytes name_of blank_name blank_place blank_transfer blank_book place_record transfer_record place_at transfer_at stocks credits_under_way total awaited name_ok is_well_formed open_place close_place set_record set_transfer credits_in bytes_in adds acts doing tests_open tests_act tests_begin tests_finish tests_close seen answer next start_answer start_book
reserving_worked = (refl, refl, refl)

-- `N1` reserves 3 of its 5, and 3 are more than the 2 that it holds (15); it spends these. Its place can't be closed while it has 3 reserved (29). It
-- releases them, 2 and 1, and has none left (31); spends them, and its place is closed, and opened for `N3`, which has nothing reserved (31)

abbrev pub given_back : List Step
given_back =
    Open 0 (opening 49 53) ∷ Open 1 (opening 50 48) ∷ Act 0 16 (asking 51) ∷ Act 0 18 (asking 51) ∷ Act 0 18 (asking 50) ∷ Close 0 ∷ Act 0 17 (asking 50)
    ∷ Act 0 17 (asking 49) ∷ Act 0 17 (asking 49) ∷ Act 0 18 (asking 51) ∷ Close 0 ∷ Open 0 (opening 51 50) ∷ Act 0 17 (asking 49) ∷ []

pub given_back_worked : Worked given_back
    (done ∷ done ∷ done ∷ short 2 3 ∷ done ∷ numbered 29 0 ∷ done ∷ done ∷ numbered 31 0 ∷ done ∷ done ∷ done ∷ numbered 31 0 ∷ [])
    (left (account 51 2) (account 50 0) 0 (replicate 8 blank_transfer)) (shows 51 2 ∷ shows 50 0 ∷ [])
unfolding val limit halves order_of all_digits digits_after decimal amount_if read_of compare_of zeros every sum any prior entry_at entries_from lookup sound_as field text_in bytes_of marked parsed amount_by amount_of state_absent state_there above_zero held_by balance_rules bit with_bit entry name_bytes name_of blank_name blank_place blank_transfer blank_book place_record transfer_record place_at transfer_at stocks credits_under_way total awaited name_ok is_well_formed open_place close_place set_record set_transfer credits_in bytes_in adds acts doing tests_open tests_act tests_begin tests_finish tests_close seen answer next start_answer start_book
given_back_worked = (refl, refl, refl)
