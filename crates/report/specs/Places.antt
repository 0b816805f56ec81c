-- For the theorems on the listing: a book's open places as a list, and the line of each.
use Rattle.std.specs.Prelude.{◌≡◌, cond, List, [], ◌∷◌, ◌++◌, ℕ, zero, suc, ◌≤◌, ◌<◌, length}
use Rattle.amount.specs.Canonical.{whole_text, canonical_text}
use Rattle.book.specs.Sets.{bit, has, occurrences}
use Rattle.book.specs.Book.{place_record}
use Rattle.book.specs.declared.Book.{Book}
use Rattle.report.specs.Listing.{place_word, space, line_feed, members}

-- the members of a set among k .. k + n - 1, lowest first
unfoldable pub members_from : ℕ → ℕ → ℕ → List ℕ
members_from o k zero = []
members_from o k (suc n) = cond (has o k) (k ∷ members_from o (suc k) n) (members_from o (suc k) n)

-- strictly rising, from k on
abbrev pub Rising : ℕ → List ℕ → Type 0
Rising k [] = Unit
Rising k (p ∷ l) = (k ≤ p) × Rising (suc p) l

-- `place`, the place, its balance and what it has reserved, one line each
unfoldable pub balance_lines : Book → List ℕ → List ℕ
balance_lines b [] = []
balance_lines b (p ∷ l) =
    place_word ++ whole_text p ++ space ++ canonical_text (place_record b p).balance ++ space ++ canonical_text (place_record b p).reserved ++ line_feed
    ++ balance_lines b l

-- l has the members of a set below n: every one once, no other, lowest first, and as many as are counted
pub record Members (o n : ℕ) (l : List ℕ) : Type 0 where
  pub each_once : (p : ℕ) → p < n → occurrences p l ≡ bit o p
  pub no_other : (p : ℕ) → n ≤ p → occurrences p l ≡ 0
  pub lowest_first : Rising 0 l
  pub counted : members n o ≡ length l
