-- Document 01, section "Session and listing", and document 02, request 5: what the session program prints, byte by byte. Every line ends in one
-- line feed.
use Rattle.std.specs.Prelude.{cond, List, [], ◌∷◌, ◌++◌, ℕ, zero, suc, leb, length}
use Rattle.std.proofs.Math.Option.{Option, some, none}
use Rattle.amount.specs.Canonical.{whole_text, canonical_text}
use Rattle.sheet.specs.Walk.{sum}
use Rattle.book.specs.Sets.{bit}
use Rattle.book.specs.Book.{place_at, total, whole_amount}
use Rattle.book.specs.declared.Place.{Place}
use Rattle.book.specs.declared.Book.{Book}
use Rattle.session.specs.Session.{good, answers_of, book_of}
use Rattle.session.specs.declared.StepAnswer.{StepAnswer}

-- ---- the words, with the spaces beside them

abbrev pub space : List ℕ
space = 32 ∷ []

abbrev pub line_feed : List ℕ
line_feed = 10 ∷ []

-- `place `
abbrev pub place_word : List ℕ
place_word = 112 ∷ 108 ∷ 97 ∷ 99 ∷ 101 ∷ 32 ∷ []

-- `held `
abbrev pub held_word : List ℕ
held_word = 104 ∷ 101 ∷ 108 ∷ 100 ∷ 32 ∷ []

-- ` way `
abbrev pub way_word : List ℕ
way_word = 32 ∷ 119 ∷ 97 ∷ 121 ∷ 32 ∷ []

-- ` total `
abbrev pub total_word : List ℕ
total_word = 32 ∷ 116 ∷ 111 ∷ 116 ∷ 97 ∷ 108 ∷ 32 ∷ []

-- `bad session`
unfoldable pub bad_text : List ℕ
bad_text = 98 ∷ 97 ∷ 100 ∷ 32 ∷ 115 ∷ 101 ∷ 115 ∷ 115 ∷ 105 ∷ 111 ∷ 110 ∷ line_feed

-- ---- the lines

-- step, number, detail
unfoldable pub step_line : ℕ → StepAnswer → List ℕ
step_line k a = whole_text k ++ space ++ whole_text a.number ++ space ++ whole_text a.detail ++ line_feed

-- of these answers, the first of them step k's
unfoldable pub step_lines : ℕ → List StepAnswer → List ℕ
step_lines k [] = []
step_lines k (a ∷ l) = step_line k a ++ step_lines (suc k) l

-- an open place and its balance; no line where it is closed. Request 5: "Place lines become `place P B R`"
unfoldable pub place_line : ℕ → Option Place → List ℕ
place_line p none = []
place_line p (some x) = place_word ++ whole_text p ++ space ++ canonical_text x.balance ++ space ++ canonical_text x.reserved ++ line_feed

-- of the first n places, lowest first
unfoldable pub place_lines : Book → ℕ → List ℕ
place_lines b zero = []
place_lines b (suc n) = place_lines b n ++ place_line n (place_at b n)

-- how many of 0 .. k - 1 are in the set
unfoldable pub members : ℕ → ℕ → ℕ
members k n = sum (bit n) k

-- open count, count under way
unfoldable pub counts_text : ℕ → ℕ → List ℕ
counts_text opened pending = held_word ++ whole_text (members 16 opened) ++ way_word ++ whole_text (members 8 pending)

-- and total
unfoldable pub last_line : Book → List ℕ
last_line b = counts_text b.opened b.pending ++ total_word ++ canonical_text (whole_amount (total b)) ++ line_feed

-- ---- the listing

-- of a run: its answers (entry two is step 1), its open places, its figures
unfoldable pub listing_text : List StepAnswer → Book → List ℕ
listing_text l b = step_lines 1 l ++ place_lines b 16 ++ last_line b

-- THE LISTING of a session
unfoldable pub listing_of : List ℕ → List ℕ
listing_of s = cond (good s) (listing_text (answers_of s) (book_of s)) bad_text

-- the length written: 0 where the buffer is too short
unfoldable pub length_in : List ℕ → List ℕ → ℕ
length_in w old = cond (leb (length w) (length old)) (length w) 0
