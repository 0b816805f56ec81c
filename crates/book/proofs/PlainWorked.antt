-- The plain book, computed: fed the accepted steps of the worked sessions, each transfer moved whole at its begin; and where it is not
-- refused as the book is.
use mathlib.Core.Path.{◌≡◌, refl}
use mathlib.Core.List.{List, [], ◌∷◌, map}
use mathlib.Core.Option.{none}
use Rattle.amount.specs.Numbers.{val, limit, halves, order_of}
use Rattle.amount.specs.Decimal.{all_digits, digits_after, decimal}
use Rattle.amount.specs.Amounts.{amount_if, read_of, compare_of}
use Rattle.amount.specs.Canonical.{zeros}
use Rattle.sheet.specs.Walk.{every, sum, prior}
use Rattle.sheet.specs.Sheet.{entry_at, entries_from, lookup, sound_as}
use Rattle.sheet.specs.Fields.{field}
use Rattle.registry.specs.Readers.{text_in, bytes_of, marked, parsed, amount_by, amount_of}
use Rattle.registry.specs.Tests.{state_absent, state_there, above_zero, held_by}
use Rattle.profiles.specs.Balance.{balance_rules}
use Rattle.book.specs.Sets.{bit, with_bit, entry, any}
use Rattle.book.specs.Refusals.{book_answer_of}
use Rattle.book.specs.Book.{name_bytes, name_of, blank_name, blank_place, blank_transfer, blank_book, place_record, transfer_record, place_at, transfer_at, stocks, credits_under_way, total, awaited, name_ok, is_well_formed, open_place, close_place, set_record, set_transfer}
use Rattle.book.specs.Steps.{Step, Open, Act, Begin, Finish, Close, credits_in, bytes_in, adds, acts, doing, tests_open, tests_act, tests_begin, tests_finish, tests_close, seen, answer, next, start_answer, start_book}
use Rattle.book.specs.Plain.{Plain, empty_plain, plain_total, plain_seen, plain_answer, plain_put, plain_next}
use Rattle.book.specs.Claim.{run, accepted_of, rebuilt, plain_run}
use Rattle.book.proofs.Worked.{unit, opening, asking, five, allowed, session, second, second_left, again, crossed, leaving, left_alone, reserving, given_back, shows, shows_with}

abbrev fed : List Step
fed = Open 0 (opening 49 53) ∷ Open 1 (opening 50 48) ∷ Begin 0 1 0 five ∷ Finish 0 ∷ []

abbrev second_fed : List Step
second_fed = Open 0 (opening 49 53) ∷ Open 1 (opening 50 50) ∷ Act 0 13 (asking 52) ∷ Act 1 12 (allowed 55) ∷ Begin 0 1 2 (asking 54) ∷ []

-- of the three transfers by number 0 the one that was finished is fed, not those before and behind it
abbrev again_fed : List Step
again_fed = Open 0 (opening 49 53) ∷ Open 1 (opening 50 48) ∷ Begin 0 1 0 (asking 51) ∷ Finish 0 ∷ []

abbrev crossed_fed : List Step
crossed_fed = Open 0 (opening 49 53) ∷ Open 1 (opening 50 51) ∷ Begin 0 1 0 five ∷ Finish 0 ∷ Act 1 18 (asking 52) ∷ []

abbrev plain : List Step → Plain
plain ss = plain_run unit empty_plain ss

-- `N1` holds 0 and `N2` 5, as in the book; of the second `N2` holds 15 already, the 6 under way among them. Place 2 is closed
pub plain_worked : (accepted_of (start_book unit) session ≡ fed) × (accepted_of (start_book unit) second ≡ second_fed)
    × (map (plain fed) (0 ∷ 1 ∷ 2 ∷ []) ≡ shows 49 0 ∷ shows 50 5 ∷ none ∷ [])
    × (map (plain second_fed) (0 ∷ 1 ∷ 2 ∷ []) ≡ shows 49 3 ∷ shows 50 15 ∷ none ∷ [])
unfolding val limit halves order_of all_digits digits_after decimal amount_if read_of compare_of zeros every sum prior entry_at entries_from lookup sound_as field text_in bytes_of marked parsed amount_by amount_of state_absent state_there above_zero held_by balance_rules bit with_bit entry name_bytes name_of blank_name blank_place blank_transfer blank_book place_record transfer_record place_at transfer_at stocks credits_under_way total name_ok is_well_formed open_place set_record set_transfer credits_in bytes_in adds acts doing tests_open tests_act tests_begin tests_finish seen answer next start_answer start_book empty_plain plain_total plain_seen plain_answer plain_put plain_next
plain_worked = (refl, refl, refl, refl)

-- without 21: number 2 is under way in the book, and free in the plain book; a finish it never refuses; all else it refuses alike
pub plain_answers : (
    map (λ s. (book_answer_of (plain_answer unit (plain second_fed) s)).number)
    (Begin 0 1 2 (asking 51) ∷ Begin 0 1 2 (asking 52) ∷ Begin 0 0 2 (asking 51) ∷ Begin 0 1 8 (asking 51) ∷ Open 0 (opening 49 53) ∷ Act 2 13 five ∷ Finish 0 ∷ Finish 9 ∷ [])
    ≡ 0 ∷ 15 ∷ 24 ∷ 22 ∷ 5 ∷ 6 ∷ 0 ∷ 0 ∷ []
    )
    × ((book_answer_of (answer second_left (Begin 0 1 2 (asking 51)))).number ≡ 21)
unfolding val limit halves order_of all_digits digits_after decimal amount_if read_of compare_of zeros every sum prior entry_at entries_from lookup sound_as field text_in bytes_of marked parsed amount_by amount_of state_absent state_there above_zero held_by balance_rules bit with_bit entry name_bytes name_of blank_name blank_place blank_transfer blank_book place_record transfer_record place_at transfer_at stocks credits_under_way total name_ok is_well_formed open_place set_record set_transfer credits_in bytes_in adds acts doing tests_open tests_act tests_begin tests_finish seen answer next start_answer start_book empty_plain plain_total plain_seen plain_answer plain_put plain_next
plain_answers = (refl, refl)

-- request 1: what the plain book is fed of the two sessions with cancels, and what it then holds, as the book does
pub cancel_worked : (rebuilt (accepted_of (start_book unit) again) ≡ again_fed) × (rebuilt (accepted_of (start_book unit) crossed) ≡ crossed_fed)
    × (map (plain again_fed) (0 ∷ 1 ∷ 2 ∷ []) ≡ shows 49 2 ∷ shows 50 3 ∷ none ∷ [])
    × (map (plain crossed_fed) (0 ∷ 1 ∷ 2 ∷ []) ≡ shows 49 0 ∷ shows 50 4 ∷ none ∷ [])
unfolding val limit halves order_of all_digits digits_after decimal amount_if read_of compare_of zeros every sum prior entry_at entries_from lookup sound_as field text_in bytes_of marked parsed amount_by amount_of state_absent state_there above_zero held_by balance_rules bit with_bit entry name_bytes name_of blank_name blank_place blank_transfer blank_book place_record transfer_record place_at transfer_at stocks credits_under_way total name_ok is_well_formed open_place set_record set_transfer credits_in bytes_in adds acts doing tests_open tests_act tests_begin tests_finish seen answer next start_answer start_book empty_plain plain_total plain_seen plain_answer plain_put plain_next
cancel_worked = (refl, refl, refl, refl)

-- ---- request 2: the closes and the reopening are fed, the cancelled transfer is not, and the plain book then holds what the book holds

abbrev leaving_fed : List Step
leaving_fed =
    Open 0 (opening 49 53) ∷ Open 1 (opening 50 48) ∷ Begin 0 1 0 (asking 51) ∷ Finish 0 ∷ Act 0 18 (asking 50) ∷ Close 0
    ∷ Open 0 (opening 51 50) ∷ []

pub close_worked : (rebuilt (accepted_of (start_book unit) leaving) ≡ leaving_fed) × (rebuilt (accepted_of (start_book unit) left_alone) ≡ left_alone)
    × (map (plain leaving_fed) (0 ∷ 1 ∷ 2 ∷ []) ≡ shows 51 2 ∷ shows 50 3 ∷ none ∷ [])
    × (map (plain left_alone) (0 ∷ 1 ∷ 2 ∷ []) ≡ none ∷ shows 50 5 ∷ none ∷ [])
unfolding val limit halves order_of all_digits digits_after decimal amount_if read_of compare_of zeros every sum any prior entry_at entries_from lookup sound_as field text_in bytes_of marked parsed amount_by amount_of state_absent state_there above_zero held_by balance_rules bit with_bit entry name_bytes name_of blank_name blank_place blank_transfer blank_book place_record transfer_record place_at transfer_at stocks credits_under_way total awaited name_ok is_well_formed open_place close_place set_record set_transfer credits_in bytes_in adds acts doing tests_open tests_act tests_begin tests_finish tests_close seen answer next start_answer start_book empty_plain plain_total plain_seen plain_answer plain_put plain_next
close_worked = (refl, refl, refl, refl)

-- without 30: `N1` sends all that it holds, and its place is awaited in the book, where the transfer is under way; 22, 6 and 29 are alike
abbrev sending : List Step
sending = Open 0 (opening 49 53) ∷ Open 1 (opening 50 48) ∷ Begin 0 1 0 five ∷ []

pub close_answers : (map (λ p. (book_answer_of (plain_answer unit (plain sending) (Close p))).number) (0 ∷ 1 ∷ 2 ∷ 16 ∷ []) ≡ 0 ∷ 29 ∷ 6 ∷ 22 ∷ [])
    × (map (λ p. (book_answer_of (answer (run (start_book unit) sending) (Close p))).number) (0 ∷ 1 ∷ 2 ∷ 16 ∷ []) ≡ 30 ∷ 30 ∷ 6 ∷ 22 ∷ [])
unfolding val limit halves order_of all_digits digits_after decimal amount_if read_of compare_of zeros every sum any prior entry_at entries_from lookup sound_as field text_in bytes_of marked parsed amount_by amount_of state_absent state_there above_zero held_by balance_rules bit with_bit entry name_bytes name_of blank_name blank_place blank_transfer blank_book place_record transfer_record place_at transfer_at stocks credits_under_way total awaited name_ok is_well_formed open_place close_place set_record set_transfer credits_in bytes_in adds acts doing tests_open tests_act tests_begin tests_finish tests_close seen answer next start_answer start_book empty_plain plain_total plain_seen plain_answer plain_put plain_next
close_answers = (refl, refl)

-- ---- request 5: the plain book has what is reserved too; the 2 under way are at `N2`. Without 28 it refuses by 31 as the book does

abbrev reserving_fed : List Step
reserving_fed = Open 0 (opening 49 53) ∷ Open 1 (opening 50 48) ∷ Act 0 16 (asking 51) ∷ Begin 0 1 0 (asking 50) ∷ Act 0 17 (asking 49) ∷ []

pub reserved_worked : (rebuilt (accepted_of (start_book unit) reserving) ≡ reserving_fed)
    × (map (plain reserving_fed) (0 ∷ 1 ∷ 2 ∷ []) ≡ shows_with 49 1 2 ∷ shows 50 2 ∷ none ∷ [])
    × (map (plain (rebuilt (accepted_of (start_book unit) given_back))) (0 ∷ 1 ∷ 2 ∷ []) ≡ shows 51 2 ∷ shows 50 0 ∷ none ∷ [])
    × (
    map (λ s. (book_answer_of (plain_answer unit (plain reserving_fed) s)).number) (Act 0 17 (asking 50) ∷ Act 0 17 (asking 51) ∷ Act 0 16 (asking 50) ∷ Close 0 ∷ [])
    ≡ 0 ∷ 31 ∷ 15 ∷ 29 ∷ []
    )
unfolding val limit halves order_of all_digits digits_after decimal amount_if read_of compare_of zeros every sum any prior entry_at entries_from lookup sound_as field text_in bytes_of marked parsed amount_by amount_of state_absent state_there above_zero held_by balance_rules bit with_bit entry name_bytes name_of blank_name blank_place blank_transfer blank_book place_record transfer_record place_at transfer_at stocks credits_under_way total awaited name_ok is_well_formed open_place close_place set_record set_transfer credits_in bytes_in adds acts doing tests_open tests_act tests_begin tests_finish tests_close seen answer next start_answer start_book empty_plain plain_total plain_seen plain_answer plain_put plain_next
reserved_worked = (refl, refl, refl, refl)
