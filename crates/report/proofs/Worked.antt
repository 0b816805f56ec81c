-- The listings of the worked sessions, computed from their bytes: the eight lines of document 01's section "Session and listing", with request 5's
-- third figure; ten with a transfer under way, seven with a closed place, which has no line, and ten with a reserved amount, worked out by hand.
use mathlib.Core.Path.{◌≡◌, refl}
use mathlib.Core.List.{List, [], ◌∷◌, ◌++◌}
use Prim.Native.Nat.{ℕ}
use Rattle.amount.specs.Numbers.{val, halves}
use Rattle.amount.specs.Canonical.{zeros, whole_text, width_of, width_up_to, last_digits, strip, decimal_text, canonical_text}
use Rattle.sheet.specs.Walk.{sum}
use Rattle.book.specs.Sets.{bit, entry}
use Rattle.book.specs.Book.{name_of, blank_name, blank_place, blank_transfer, place_at, transfer_at, stocks, credits_under_way, total}
use Rattle.book.specs.declared.Book.{Book}
use Rattle.book.proofs.Worked.{session_left, second_left, one_open, reserving_left}
use Rattle.session.proofs.Worked.{session, worked_good, worked_answers, worked_book, second, second_good, second_answers, second_book, left_alone, left_alone_good, left_alone_answers, left_alone_book, reserving, reserving_good, reserving_answers, reserving_book}
use Rattle.report.specs.Listing.{step_line, step_lines, place_line, place_lines, members, counts_text, last_line, listing_text, listing_of}

-- ---- document 01's

-- 1 0 0, 2 0 0, 3 0 0, 4 15 0, 5 0 0
abbrev steps : List ℕ
steps =
    49 ∷ 32 ∷ 48 ∷ 32 ∷ 48 ∷ 10
    ∷ 50 ∷ 32 ∷ 48 ∷ 32 ∷ 48 ∷ 10
    ∷ 51 ∷ 32 ∷ 48 ∷ 32 ∷ 48 ∷ 10
    ∷ 52 ∷ 32 ∷ 49 ∷ 53 ∷ 32 ∷ 48 ∷ 10
    ∷ 53 ∷ 32 ∷ 48 ∷ 32 ∷ 48 ∷ 10 ∷ []

-- place 0 0 0, place 1 5 0
abbrev places : List ℕ
places =
    112 ∷ 108 ∷ 97 ∷ 99 ∷ 101 ∷ 32 ∷ 48 ∷ 32 ∷ 48 ∷ 32 ∷ 48 ∷ 10
    ∷ 112 ∷ 108 ∷ 97 ∷ 99 ∷ 101 ∷ 32 ∷ 49 ∷ 32 ∷ 53 ∷ 32 ∷ 48 ∷ 10 ∷ []

-- held 2 way 0 total 5
abbrev last : List ℕ
last =
    104 ∷ 101 ∷ 108 ∷ 100 ∷ 32 ∷ 50 ∷ 32 ∷ 119 ∷ 97 ∷ 121 ∷ 32 ∷ 48 ∷ 32 ∷ 116 ∷ 111 ∷ 116 ∷ 97 ∷ 108 ∷ 32 ∷ 53 ∷ 10 ∷ []

-- ---- the second session's

-- 1 0 0, 2 0 0, 3 0 0, 4 15 0, 5 7 10, 6 0 0, 7 0 0
abbrev second_steps : List ℕ
second_steps =
    49 ∷ 32 ∷ 48 ∷ 32 ∷ 48 ∷ 10
    ∷ 50 ∷ 32 ∷ 48 ∷ 32 ∷ 48 ∷ 10
    ∷ 51 ∷ 32 ∷ 48 ∷ 32 ∷ 48 ∷ 10
    ∷ 52 ∷ 32 ∷ 49 ∷ 53 ∷ 32 ∷ 48 ∷ 10
    ∷ 53 ∷ 32 ∷ 55 ∷ 32 ∷ 49 ∷ 48 ∷ 10
    ∷ 54 ∷ 32 ∷ 48 ∷ 32 ∷ 48 ∷ 10
    ∷ 55 ∷ 32 ∷ 48 ∷ 32 ∷ 48 ∷ 10 ∷ []

-- place 0 3 0, place 1 9 0
abbrev second_places : List ℕ
second_places =
    112 ∷ 108 ∷ 97 ∷ 99 ∷ 101 ∷ 32 ∷ 48 ∷ 32 ∷ 51 ∷ 32 ∷ 48 ∷ 10
    ∷ 112 ∷ 108 ∷ 97 ∷ 99 ∷ 101 ∷ 32 ∷ 49 ∷ 32 ∷ 57 ∷ 32 ∷ 48 ∷ 10 ∷ []

-- held 2 way 1 total 18: 3 and 9 held, 6 under way
abbrev second_last : List ℕ
second_last =
    104 ∷ 101 ∷ 108 ∷ 100 ∷ 32 ∷ 50 ∷ 32 ∷ 119 ∷ 97 ∷ 121 ∷ 32 ∷ 49 ∷ 32 ∷ 116 ∷ 111 ∷ 116 ∷ 97 ∷ 108 ∷ 32 ∷ 49 ∷ 56 ∷ 10 ∷ []

-- ---- document 02, request 2: "The listing shows open places only". `N1` has left

-- 1 0 0, 2 0 0, 3 0 0, 4 0 0, 5 0 0
abbrev left_alone_lines : List ℕ
left_alone_lines =
    49 ∷ 32 ∷ 48 ∷ 32 ∷ 48 ∷ 10
    ∷ 50 ∷ 32 ∷ 48 ∷ 32 ∷ 48 ∷ 10
    ∷ 51 ∷ 32 ∷ 48 ∷ 32 ∷ 48 ∷ 10
    ∷ 52 ∷ 32 ∷ 48 ∷ 32 ∷ 48 ∷ 10
    ∷ 53 ∷ 32 ∷ 48 ∷ 32 ∷ 48 ∷ 10 ∷ []

-- place 1 5 0
abbrev left_alone_places : List ℕ
left_alone_places = 112 ∷ 108 ∷ 97 ∷ 99 ∷ 101 ∷ 32 ∷ 49 ∷ 32 ∷ 53 ∷ 32 ∷ 48 ∷ 10 ∷ []

-- held 1 way 0 total 5
abbrev left_alone_last : List ℕ
left_alone_last =
    104 ∷ 101 ∷ 108 ∷ 100 ∷ 32 ∷ 49 ∷ 32 ∷ 119 ∷ 97 ∷ 121 ∷ 32 ∷ 48 ∷ 32 ∷ 116 ∷ 111 ∷ 116 ∷ 97 ∷ 108 ∷ 32 ∷ 53 ∷ 10 ∷ []

-- ---- request 5: `N1` holds 1 and has 2 reserved, and 2 are under way

-- 1 0 0, 2 0 0, 3 0 0, 4 0 0, 5 15 0, 6 31 0, 7 0 0
abbrev reserving_lines : List ℕ
reserving_lines =
    49 ∷ 32 ∷ 48 ∷ 32 ∷ 48 ∷ 10
    ∷ 50 ∷ 32 ∷ 48 ∷ 32 ∷ 48 ∷ 10
    ∷ 51 ∷ 32 ∷ 48 ∷ 32 ∷ 48 ∷ 10
    ∷ 52 ∷ 32 ∷ 48 ∷ 32 ∷ 48 ∷ 10
    ∷ 53 ∷ 32 ∷ 49 ∷ 53 ∷ 32 ∷ 48 ∷ 10
    ∷ 54 ∷ 32 ∷ 51 ∷ 49 ∷ 32 ∷ 48 ∷ 10
    ∷ 55 ∷ 32 ∷ 48 ∷ 32 ∷ 48 ∷ 10 ∷ []

-- place 0 1 2, place 1 0 0
abbrev reserving_places : List ℕ
reserving_places =
    112 ∷ 108 ∷ 97 ∷ 99 ∷ 101 ∷ 32 ∷ 48 ∷ 32 ∷ 49 ∷ 32 ∷ 50 ∷ 10
    ∷ 112 ∷ 108 ∷ 97 ∷ 99 ∷ 101 ∷ 32 ∷ 49 ∷ 32 ∷ 48 ∷ 32 ∷ 48 ∷ 10 ∷ []

-- held 2 way 1 total 5
abbrev reserving_last : List ℕ
reserving_last =
    104 ∷ 101 ∷ 108 ∷ 100 ∷ 32 ∷ 50 ∷ 32 ∷ 119 ∷ 97 ∷ 121 ∷ 32 ∷ 49 ∷ 32 ∷ 116 ∷ 111 ∷ 116 ∷ 97 ∷ 108 ∷ 32 ∷ 53 ∷ 10 ∷ []

-- ---- computed

-- what is printed of a book
abbrev Prints : Book → List ℕ → List ℕ → Type 0
Prints b places last = (place_lines b 16 ≡ places) × (last_line b ≡ last)

prints : Prints session_left places last × Prints second_left second_places second_last × Prints one_open left_alone_places left_alone_last
    × Prints reserving_left reserving_places reserving_last
unfolding val halves zeros sum bit entry name_of blank_name blank_place blank_transfer place_at transfer_at stocks credits_under_way total place_line place_lines members counts_text last_line whole_text width_of width_up_to last_digits strip decimal_text canonical_text
prints = ((refl, refl), (refl, refl), (refl, refl), (refl, refl))

pub worked_listing : listing_of session ≡ steps ++ places ++ last
unfolding listing_of listing_text step_line step_lines whole_text width_of width_up_to last_digits
worked_listing = rw (worked_good, worked_answers, worked_book, prints.0.0, prints.0.1)

pub second_listing : listing_of second ≡ second_steps ++ second_places ++ second_last
unfolding listing_of listing_text step_line step_lines whole_text width_of width_up_to last_digits
second_listing = rw (second_good, second_answers, second_book, prints.1.0, prints.1.1)

pub left_alone_listing : listing_of left_alone ≡ left_alone_lines ++ left_alone_places ++ left_alone_last
unfolding listing_of listing_text step_line step_lines whole_text width_of width_up_to last_digits
left_alone_listing = rw (left_alone_good, left_alone_answers, left_alone_book, prints.2.0, prints.2.1)

pub reserving_listing : listing_of reserving ≡ reserving_lines ++ reserving_places ++ reserving_last
unfolding listing_of listing_text step_line step_lines whole_text width_of width_up_to last_digits
reserving_listing = rw (reserving_good, reserving_answers, reserving_book, prints.3.0, prints.3.1)
