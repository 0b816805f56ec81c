-- Test 28 and the total as one answer: what each way out of the pass makes of it, and what it tells a caller.
use Rattle.std.proofs.Common.{◌≡◌, ℕ, ◌+◌, ◌%◌, ◌<◌, Bool, true, false, cond, ◌&&◌, eqb, ltb, sym, refl, ap, ◌∙◌, mod-eq_of_lt, arith, eq-eqb}
use mathlib.Core.Bool.{false≢true}
use Rattle.std.specs.Prelude.{Option, Some, None}
use Rattle.amount.specs.Helpers.{checked}
use Rattle.amount.specs.Numbers.{limit, halves}
use Rattle.amount.specs.declared.uint128.Uint128.{Uint128}
use Rattle.book.specs.Sets.{has}
use Rattle.book.specs.Book.{place_record, transfer_record, place_at, transfer_at, stock_of, carried_by, credits, stocks, credits_under_way, total, name_ok, place_ok, scales_ok, transfer_ok, is_well_formed}
use Rattle.book.specs.declared.Book.{Book}
use Rattle.book.proofs.Formed.{Whole, scales, Formed, formed}
use Rattle.audit.specs.Totals.{total_of, sum_in, Added}
use Rattle.audit.specs.declared.totals.HalfSums.{HalfSums}
use Rattle.audit.proofs.Sums.{Wrapped, wrapped_none, Seen, seen_none, added_none, added_once, added_twice, seen_more, place_in, place_out, transfer_in, transfer_out, ends_in}

-- an answer by the verdict
abbrev answer : Bool → ℕ → Option Uint128
answer t n = cond t (Some (halves n)) None

-- ---- a book that fails a part of test 28

module _ (b : Book) where
  fails : (Formed b → ⊥) → None ≡ total_of b
  unfolding total_of
  fails not· = go (is_well_formed b) refl
    where
      go : (t : Bool) → is_well_formed b ≡ t → None ≡ answer t (total b)
      go true h = absurd (not· (formed b h))
      go false h = refl

  pub unit_fails : name_ok b.unit ≡ false → None ≡ total_of b
  unit_fails h = fails (λ f. false≢true (sym h ∙ f.unit))

  module _ (p : ℕ) (low : p < 16) where
    pub place_scale_fails : (Whole (place_record b p) → ⊥) → None ≡ total_of b
    place_scale_fails h = fails (λ f. h (f.whole_places p low))

    pub subject_fails : has b.opened p ≡ true → name_ok (place_record b p).subject ≡ false → None ≡ total_of b
    subject_fails o h = fails (λ f. false≢true (sym h ∙ (rw (place_in b p o) at (f.places p low))))

  module _ (t : ℕ) (low : t < 8) where
    pub transfer_scale_fails : ((transfer_record b t).amount.scale ≡ 0 → ⊥) → None ≡ total_of b
    transfer_scale_fails h = fails (λ f. h (f.whole_transfers t low))

    pub ends_fail : has b.pending t ≡ true → has b.opened (transfer_record b t).from && has b.opened (transfer_record b t).to ≡ false
        → None ≡ total_of b
    ends_fail o h = fails (λ f. false≢true (sym h ∙ sym (ends_in b t o) ∙ f.transfers t low))

-- ---- the pass over a book

-- the first i places, and the first i transfers after all places
abbrev pub PlacesSeen : Book → ℕ → HalfSums → Type 0
PlacesSeen b i s = Seen (λ p. scales_ok (place_record b p)) (λ p. place_ok (place_at b p)) (λ p. stock_of (place_at b p)) 0 0 2 i s

abbrev pub TransfersSeen : Book → ℕ → HalfSums → Type 0
TransfersSeen b i s =
    Seen (λ t. eqb (transfer_record b t).amount.scale 0) (λ t. transfer_ok b (transfer_at b t)) (λ t. carried_by (transfer_at b t)) (stocks b) 32 1 i s

module _ (b : Book) (i : ℕ) {s : HalfSums} where
  pub open_place_lem : PlacesSeen b i s → Whole (place_record b i) → has b.opened i ≡ true → name_ok (place_record b i).subject ≡ true
      → {q r t : HalfSums} → t ≡ r → Added s (credits (place_record b i).balance) q → Added q (credits (place_record b i).reserved) r → PlacesSeen b (i + 1) t
  open_place_lem seen w o h e a c = seen_more seen (scales _ w) (rw (place_in b i o) h) (rw (place_in b i o)) e (added_twice a c)

  pub closed_place : PlacesSeen b i s → Whole (place_record b i) → has b.opened i ≡ false
      → {t : HalfSums} → t ≡ s → PlacesSeen b (i + 1) t
  closed_place seen w o e = seen_more seen (scales _ w) (rw (place_out b i o)) (rw (place_out b i o)) e (added_none 2 s)

  pub pending_transfer : TransfersSeen b i s → (transfer_record b i).amount.scale ≡ 0 → has b.pending i ≡ true
      → has b.opened (transfer_record b i).from && has b.opened (transfer_record b i).to ≡ true
      → {r t : HalfSums} → t ≡ r → Added s (credits (transfer_record b i).amount) r → TransfersSeen b (i + 1) t
  pending_transfer seen z o h e a = seen_more seen (eq-eqb _ 0 z) (ends_in b i o ∙ h) (rw (transfer_in b i o)) e (added_once a)

  pub idle_transfer : TransfersSeen b i s → (transfer_record b i).amount.scale ≡ 0 → has b.pending i ≡ false
      → {t : HalfSums} → t ≡ s → TransfersSeen b (i + 1) t
  idle_transfer seen z o e = seen_more seen (eq-eqb _ 0 z) (rw (transfer_out b i o)) (rw (transfer_out b i o)) e (added_none 1 s)

pub no_places : (b : Book) → PlacesSeen b 0 (record { above = 0; hi = 0; carries = 0; lo = 0 })
unfolding sum_in
no_places b = seen_none _ _ _ 0 0 2 _ refl (omega arith) (omega arith)

pub no_transfers : (b : Book) (s : HalfSums) → PlacesSeen b 16 s → TransfersSeen b 0 s
unfolding stocks
no_transfers b s seen = seen_none _ _ _ (stocks b) 32 1 s (omega (arith, seen.counted)) seen.above seen.carries

-- every record passes: what is left of test 28 is that the total fits
pub passed : (b : Book) (s r : HalfSums) → name_ok b.unit ≡ true → PlacesSeen b 16 s → TransfersSeen b 8 r → checked (sum_in r) ≡ total_of b
unfolding total_of checked is_well_formed total credits_under_way
passed b s r u p t =
    rw (t.counted, u, p.second, p.first, t.first, t.second) (last (ltb (stocks b + credits_under_way b) limit))
  where
    last : (x : Bool) → answer x (total b) ≡ answer (x && true && true && true && true && true) (total b)
    last true = refl
    last false = refl

-- ---- the total alone

abbrev pub PlacesCounted : Book → ℕ → Uint128 → Type 0
PlacesCounted b i r = Wrapped (λ p. stock_of (place_at b p)) 0 i r

abbrev pub TransfersCounted : Book → ℕ → Uint128 → Type 0
TransfersCounted b i r = Wrapped (λ t. carried_by (transfer_at b t)) (stocks b) i r

pub none_counted : (b : Book) → PlacesCounted b 0 (record { hi = 0; lo = 0 })
unfolding halves limit
none_counted b = wrapped_none (λ p. stock_of (place_at b p)) 0 (record { hi = 0; lo = 0 }) refl

pub places_counted : (b : Book) (i : ℕ) (r : Uint128) → i ≡ 16 → PlacesCounted b i r → TransfersCounted b 0 r
unfolding stocks
places_counted b i r e w = wrapped_none (λ t. carried_by (transfer_at b t)) (stocks b) r (w.sum ∙ rw e (ap (λ (k : ℕ). halves (k % limit)) (omega arith)))

pub all_counted : (b : Book) (i : ℕ) (r : Uint128) → i ≡ 8 → TransfersCounted b i r → is_well_formed b ≡ true → r ≡ halves (total b)
unfolding total credits_under_way
all_counted b i r e w h = w.sum ∙ rw e (ap halves (mod-eq_of_lt (formed b h).fits))
