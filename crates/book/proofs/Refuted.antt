-- Wrong statements on steps, refuted by computation: each is what an exported contract would say of a wrong program.
use mathlib.Core.Path.{◌≡◌, refl, sym, ap, ◌∙◌}
use mathlib.Core.List.{[], ◌∷◌}
use Rattle.amount.specs.Numbers.{val, limit, halves, order_of}
use Rattle.amount.specs.Decimal.{all_digits, digits_after, decimal}
use Rattle.amount.specs.Amounts.{amount_if, read_of, compare_of}
use Rattle.amount.specs.Canonical.{zeros}
use Rattle.sheet.specs.Walk.{every, sum, prior}
use Rattle.sheet.specs.Sheet.{entry_at, entries_from, lookup, sound_as}
use Rattle.sheet.specs.Fields.{field}
use Rattle.registry.specs.Readers.{text_in, bytes_of, marked, parsed, amount_by, amount_of}
use Rattle.registry.specs.Tests.{state_absent, state_there, above_zero, held_by}
use Rattle.profiles.specs.Balance.{balance_rules}
use Rattle.book.specs.Sets.{bit, with_bit, entry}
use Rattle.book.specs.Book.{name_bytes, name_of, blank_name, blank_place, blank_transfer, blank_book, place_record, transfer_record, place_at, transfer_at, stocks, credits_under_way, total, name_ok, is_well_formed, open_place, set_record, set_transfer}
use Rattle.book.specs.Steps.{Open, Act, Begin, Finish, Cancel, credits_in, bytes_in, adds, acts, doing, held_at, effect, tests_open, tests_act, tests_begin, tests_finish, seen, answer, next, start_answer, start_book}
use Rattle.book.specs.Claim.{run}
use Rattle.book.specs.declared.Book.{Book}
use Prim.Native.Nat.{ℕ}
use native.Mathlib.Omega.{arith}
use Rattle.book.proofs.Worked.{unit, opening, five}

-- `N1` holds 5 at place 0, `N2` nothing at place 1
abbrev two : Book
two = run (start_book unit) (Open 0 (opening 49 53) ∷ Open 1 (opening 50 48) ∷ [])

computed : ((next two (Begin 0 1 0 five)).pending ≡ 1) × ((next two (Begin 1 0 0 five)).pending ≡ 0)
    × (held_at two 0 ≡ 5) × (held_at (next two (Act 0 18 five)) 0 ≡ 0)
    × ((next two (Open 16 five)).opened ≡ 3) × ((effect two (Open 16 five)).opened ≡ 65539)
unfolding val limit halves order_of all_digits digits_after decimal amount_if read_of compare_of zeros every sum prior entry_at entries_from lookup sound_as field text_in bytes_of marked parsed amount_by amount_of state_absent state_there above_zero held_by balance_rules bit with_bit entry name_bytes name_of blank_name blank_place blank_transfer blank_book place_record transfer_record place_at transfer_at stocks credits_under_way total name_ok is_well_formed open_place set_record set_transfer credits_in bytes_in acts adds doing tests_open tests_act tests_begin tests_finish seen answer next start_answer start_book
computed = (refl, refl, refl, refl, refl, refl)

-- a begin is not the begin the other way
pub not_backwards : next two (Begin 0 1 0 five) ≡ next two (Begin 1 0 0 five) → ⊥
not_backwards h = let e : ◌≡◌ {A = ℕ} 1 0 = sym computed.0 ∙ ap (λ (b : Book). b.pending) h ∙ computed.1 in absurd (omega (arith, e))

-- an accepted act alters the book
pub not_without_effect : next two (Act 0 18 five) ≡ two → ⊥
not_without_effect h = let e : ◌≡◌ {A = ℕ} 0 5 = sym computed.3 ∙ ap (λ (b : Book). held_at b 0) h ∙ computed.2 in absurd (omega (arith, e))

-- a refused step has not its effect
pub not_where_refused : next two (Open 16 five) ≡ effect two (Open 16 five) → ⊥
not_where_refused h = let e : ◌≡◌ {A = ℕ} 3 65539 = sym computed.4 ∙ ap (λ (b : Book). b.opened) h ∙ computed.5 in absurd (omega (arith, e))

-- a cancel is not a finish
sent : (held_at (next (next two (Begin 0 1 0 five)) (Cancel 0)) 0 ≡ 5) × (held_at (next (next two (Begin 0 1 0 five)) (Finish 0)) 0 ≡ 0)
unfolding val limit halves order_of all_digits digits_after decimal amount_if read_of compare_of zeros every sum prior entry_at entries_from lookup sound_as field text_in bytes_of marked parsed amount_by amount_of state_absent state_there above_zero held_by balance_rules bit with_bit entry name_bytes name_of blank_name blank_place blank_transfer blank_book place_record transfer_record place_at transfer_at stocks credits_under_way total name_ok is_well_formed open_place set_record set_transfer credits_in bytes_in acts adds doing tests_open tests_act tests_begin tests_finish seen answer next start_answer start_book
sent = (refl, refl)

pub not_forth : next (next two (Begin 0 1 0 five)) (Cancel 0) ≡ next (next two (Begin 0 1 0 five)) (Finish 0) → ⊥
not_forth h = let e : ◌≡◌ {A = ℕ} 5 0 = sym sent.0 ∙ ap (λ (b : Book). held_at b 0) h ∙ sent.1 in absurd (omega (arith, e))
