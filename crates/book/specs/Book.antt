-- Document 01, section "Book": what a book holds, its total, the test of refusal 28, and how a book is altered; and what document 02's
-- requests ask of it.
use Rattle.std.specs.Prelude.{Bool, true, false, ◌&&◌, ◌||◌, List, [], ◌++◌, ℕ, ◌+◌, ◌-◌, eqb, leb, ltb, length, get_or, set, take, replicate}
use Rattle.std.proofs.Math.Option.{Option, some, none}
use Rattle.amount.specs.Numbers.{val, limit, halves}
use Rattle.amount.specs.Canonical.{zeros}
use Rattle.amount.specs.declared.Amount.{Amount}
use Rattle.registry.specs.Refusals.{zero_amount}
use Rattle.sheet.specs.Walk.{sum, every}
use Rattle.book.specs.Sets.{with_bit, entry, any}
use Rattle.book.specs.declared.Name.{Name}
use Rattle.book.specs.declared.Place.{Place}
use Rattle.book.specs.declared.Transfer.{Transfer}
use Rattle.book.specs.declared.Book.{Book}

-- ---- names and amounts

-- the text that a name holds
unfoldable pub name_bytes : Name → List ℕ
name_bytes n = take n.len n.bytes

-- a text of at most 32 bytes as a name, filled up with zeros
unfoldable pub name_of : List ℕ → Name
name_of t = record { bytes = t ++ zeros (32 - length t); len = length t }

-- all scales of a book are 0: an amount is its number of credits
abbrev pub credits : Amount → ℕ
credits a = val a.mantissa

abbrev pub whole_amount : ℕ → Amount
whole_amount n = record { mantissa = halves n; scale = 0 }

-- ---- records of zeros

unfoldable pub blank_name : Name
blank_name = record { bytes = zeros 32; len = 0 }

unfoldable pub blank_place : Place
blank_place = record { subject = blank_name; balance = zero_amount; reserved = zero_amount }

unfoldable pub blank_transfer : Transfer
blank_transfer = record { from = 0; to = 0; amount = zero_amount }

unfoldable pub blank_book : Book
blank_book = record { unit = blank_name; opened = 0; pending = 0; places = replicate 16 blank_place; transfers = replicate 8 blank_transfer }

-- what the logic reads past an array's end; no claim turns on it
abbrev pub no_place : Place
no_place = record { subject = record { bytes = []; len = 0 }; balance = zero_amount; reserved = zero_amount }

abbrev pub no_transfer : Transfer
no_transfer = record { from = 0; to = 0; amount = zero_amount }

-- ---- setters, one for each field

abbrev pub set_subject : Place → Name → Place
set_subject x n = record { subject = n; balance = x.balance; reserved = x.reserved }

abbrev pub set_balance : Place → Amount → Place
set_balance x a = record { subject = x.subject; balance = a; reserved = x.reserved }

abbrev pub set_reserved : Place → Amount → Place
set_reserved x a = record { subject = x.subject; balance = x.balance; reserved = a }

abbrev pub set_unit : Book → Name → Book
set_unit b u = record { unit = u; opened = b.opened; pending = b.pending; places = b.places; transfers = b.transfers }

abbrev pub set_opened : Book → ℕ → Book
set_opened b n = record { unit = b.unit; opened = n; pending = b.pending; places = b.places; transfers = b.transfers }

abbrev pub set_pending : Book → ℕ → Book
set_pending b n = record { unit = b.unit; opened = b.opened; pending = n; places = b.places; transfers = b.transfers }

abbrev pub set_places : Book → List Place → Book
set_places b l = record { unit = b.unit; opened = b.opened; pending = b.pending; places = l; transfers = b.transfers }

abbrev pub set_transfers : Book → List Transfer → Book
set_transfers b l = record { unit = b.unit; opened = b.opened; pending = b.pending; places = b.places; transfers = l }

-- ---- what a book holds

-- the records p and t, in use or not
unfoldable pub place_record : Book → ℕ → Place
place_record b p = get_or b.places p no_place

unfoldable pub transfer_record : Book → ℕ → Transfer
transfer_record b t = get_or b.transfers t no_transfer

-- place p, where it is open
unfoldable pub place_at : Book → ℕ → Option Place
place_at b p = entry no_place b.opened b.places p

-- transfer t, where it is under way
unfoldable pub transfer_at : Book → ℕ → Option Transfer
transfer_at b t = entry no_transfer b.pending b.transfers t

abbrev pub held_in : Option Place → ℕ
held_in none = 0
held_in (some x) = credits x.balance

abbrev pub reserved_in : Option Place → ℕ
reserved_in none = 0
reserved_in (some x) = credits x.reserved

abbrev pub carried_by : Option Transfer → ℕ
carried_by none = 0
carried_by (some r) = credits r.amount

-- what the total counts of a place: request 5, "The total .. now includes reserved credits"
abbrev pub stock_of : Option Place → ℕ
stock_of o = held_in o + reserved_in o

-- the open places' stocks, and the credits under way
unfoldable pub stocks : Book → ℕ
stocks b = sum (λ p. stock_of (place_at b p)) 16

unfoldable pub credits_under_way : Book → ℕ
credits_under_way b = sum (λ t. carried_by (transfer_at b t)) 8

unfoldable pub total : Book → ℕ
total b = stocks b + credits_under_way b

-- ---- document 02, request 2, refusal 30: "if any transfer under way names the place at either end"

abbrev pub names_place : ℕ → Option Transfer → Bool
names_place p none = false
names_place p (some r) = eqb r.from p || eqb r.to p

unfoldable pub awaited : Book → ℕ → Bool
awaited b p = any (λ t. names_place p (transfer_at b t)) 8

-- ---- refusal 28

abbrev pub is_some : {A : Type 0} → Option A → Bool
is_some none = false
is_some (some a) = true

-- neither empty nor over 32 bytes
unfoldable pub name_ok : Name → Bool
name_ok n = ltb 0 n.len && leb n.len 32

abbrev pub place_ok : Option Place → Bool
place_ok none = true
place_ok (some x) = name_ok x.subject

abbrev pub scales_ok : Place → Bool
scales_ok x = eqb x.balance.scale 0 && eqb x.reserved.scale 0

-- both ends are open
abbrev pub transfer_ok : Book → Option Transfer → Bool
transfer_ok b none = true
transfer_ok b (some r) = is_some (place_at b r.from) && is_some (place_at b r.to)

-- not 28. Scales are tested of every record, also of closed places and of transfers that are not under way
unfoldable pub is_well_formed : Book → Bool
is_well_formed b =
    ltb (total b) limit && name_ok b.unit && every (λ p. place_ok (place_at b p)) 16
    && every (λ p. scales_ok (place_record b p)) 16
    && every (λ t. eqb (transfer_record b t).amount.scale 0) 8
    && every (λ t. transfer_ok b (transfer_at b t)) 8

-- ---- how a step alters a book

-- place p is open, and its record is x
unfoldable pub open_place : Book → ℕ → Place → Book
open_place b p x = set_places (set_opened b (with_bit b.opened p 1)) (set b.places p x)

-- place p is closed, and its record zeros
unfoldable pub close_place : Book → ℕ → Book
close_place b p = set_places (set_opened b (with_bit b.opened p 0)) (set b.places p blank_place)

-- the record of place p is x
unfoldable pub set_record : Book → ℕ → Place → Book
set_record b p x = set_places b (set b.places p x)

-- place p holds n credits
abbrev pub set_credits : Book → ℕ → ℕ → Book
set_credits b p n = set_record b p (set_balance (place_record b p) (whole_amount n))

-- transfer t is under way (d is 1) or not (0), and its record is r
unfoldable pub set_transfer : Book → ℕ → ℕ → Transfer → Book
set_transfer b t d r = set_transfers (set_pending b (with_bit b.pending t d)) (set b.transfers t r)
