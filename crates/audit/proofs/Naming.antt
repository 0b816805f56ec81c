-- The transfers under way that name a place, a turn of a loop at a time.
use Rattle.std.proofs.Common.{◌≡◌, ℕ, suc, ◌+◌, ◌<◌, Bool, true, false, ◌||◌, eqb, arith}
use Rattle.book.specs.Sets.{has, any}
use Rattle.book.specs.Book.{transfer_record, transfer_at, names_place, awaited}
use Rattle.book.specs.declared.Book.{Book}
use Rattle.book.proofs.Tables.{any_some}
use Rattle.audit.proofs.Sums.{transfer_in, transfer_out}

module _ (b : Book) (p : ℕ) where
  -- whether one of the first i names it
  abbrev pub named_before : ℕ → Bool
  named_before i = any (λ t. names_place p (transfer_at b t)) i

  pub named_next : (i : ℕ) → named_before i ≡ false → names_place p (transfer_at b i) ≡ false → named_before (i + 1) ≡ false
  unfolding any
  named_next i h k = let e : i + 1 ≡ suc i = omega arith in rw (e, h) k

  pub named_some : (i : ℕ) → i < 8 → names_place p (transfer_at b i) ≡ true → awaited b p ≡ true
  unfolding awaited
  named_some i = any_some (λ t. names_place p (transfer_at b t)) 8 i

  -- by the code's tests
  module _ (i : ℕ) where
    pub names_under_way : has b.pending i ≡ true
        → names_place p (transfer_at b i) ≡ eqb (transfer_record b i).from p || eqb (transfer_record b i).to p
    names_under_way h = rw (transfer_in b i h)

    pub names_none : has b.pending i ≡ false → names_place p (transfer_at b i) ≡ false
    names_none h = rw (transfer_out b i h)
