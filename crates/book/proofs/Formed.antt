-- Test 28, fact by fact: what a book that passes it has, of any book value, and back.
use mathlib.Core.Path.{◌≡◌, refl}
use mathlib.Core.Bool.{Bool, true, false, ◌&&◌, false≢true}
use Prim.Native.Nat.{ℕ, ◌<◌}
use lib.Dec.{eqb, ltb}
use borrow.Author.Tests.{eq-eqb, eqb-true, ltb-true, lt-ltb}
use Rattle.amount.specs.Numbers.{limit}
use Rattle.sheet.specs.Walk.{every}
use Rattle.book.specs.Book.{place_record, transfer_record, place_at, transfer_at, total, name_ok, place_ok, scales_ok, transfer_ok, is_well_formed}
use Rattle.book.specs.declared.Place.{Place}
use Rattle.book.specs.declared.Book.{Book}
use Rattle.book.proofs.Tables.{every_true, every_at}

pub and_l : (s t : Bool) → s && t ≡ true → s ≡ true
and_l true t h = refl
and_l false t h = h

pub and_r : (s t : Bool) → s && t ≡ true → t ≡ true
and_r true t h = h
and_r false t h = absurd (false≢true h)

-- all scales of a place are 0
pub record Whole (x : Place) : Type 0 where
  pub balance : x.balance.scale ≡ 0
  pub reserved : x.reserved.scale ≡ 0

pub whole : (x : Place) → scales_ok x ≡ true → Whole x
whole x h =
    let s : Bool = eqb x.balance.scale 0 in
    let t : Bool = eqb x.reserved.scale 0 in
    record { balance = eqb-true x.balance.scale 0 (and_l s t h); reserved = eqb-true x.reserved.scale 0 (and_r s t h) }

pub scales : (x : Place) → Whole x → scales_ok x ≡ true
scales x w = rw (w.balance, w.reserved)

pub record Formed (b : Book) : Type 0 where
  pub fits : total b < limit
  pub unit : name_ok b.unit ≡ true
  pub places : (p : ℕ) → p < 16 → place_ok (place_at b p) ≡ true
  pub whole_places : (p : ℕ) → p < 16 → Whole (place_record b p)
  pub whole_transfers : (t : ℕ) → t < 8 → (transfer_record b t).amount.scale ≡ 0
  pub transfers : (t : ℕ) → t < 8 → transfer_ok b (transfer_at b t) ≡ true

module _ (b : Book) where
  abbrev whole_place : ℕ → Bool
  whole_place p = scales_ok (place_record b p)

  abbrev whole_transfer : ℕ → Bool
  whole_transfer t = eqb (transfer_record b t).amount.scale 0

  pub formed : is_well_formed b ≡ true → Formed b
  unfolding is_well_formed
  formed h =
      let s₁ : Bool = ltb (total b) limit in
      let s₂ : Bool = name_ok b.unit in
      let s₃ : Bool = every (λ p. place_ok (place_at b p)) 16 in
      let s₄ : Bool = every whole_place 16 in
      let s₅ : Bool = every whole_transfer 8 in
      let s₆ : Bool = every (λ t. transfer_ok b (transfer_at b t)) 8 in
      let h₅ : s₁ && s₂ && s₃ && s₄ && s₅ ≡ true = and_l (s₁ && s₂ && s₃ && s₄ && s₅) s₆ h in
      let h₄ : s₁ && s₂ && s₃ && s₄ ≡ true = and_l (s₁ && s₂ && s₃ && s₄) s₅ h₅ in
      let h₃ : s₁ && s₂ && s₃ ≡ true = and_l (s₁ && s₂ && s₃) s₄ h₄ in
      let h₂ : s₁ && s₂ ≡ true = and_l (s₁ && s₂) s₃ h₃ in
      record {
        fits = ltb-true (total b) limit (and_l s₁ s₂ h₂);
        unit = and_r s₁ s₂ h₂;
        places = every_at (λ p. place_ok (place_at b p)) 16 (and_r (s₁ && s₂) s₃ h₃);
        whole_places = λ p k. whole (place_record b p) (every_at whole_place 16 (and_r (s₁ && s₂ && s₃) s₄ h₄) p k);
        whole_transfers = λ t k. eqb-true (transfer_record b t).amount.scale 0 (every_at whole_transfer 8 (and_r (s₁ && s₂ && s₃ && s₄) s₅ h₅) t k);
        transfers = every_at (λ t. transfer_ok b (transfer_at b t)) 8 (and_r (s₁ && s₂ && s₃ && s₄ && s₅) s₆ h);
      }

  pub well_formed : Formed b → is_well_formed b ≡ true
  unfolding is_well_formed
  well_formed f =
      rw (
        lt-ltb (total b) limit f.fits,
        f.unit,
        every_true (λ p. place_ok (place_at b p)) 16 f.places,
        every_true whole_place 16 (λ p k. scales (place_record b p) (f.whole_places p k)),
        every_true whole_transfer 8 (λ t k. eq-eqb (transfer_record b t).amount.scale 0 (f.whole_transfers t k)),
        every_true (λ t. transfer_ok b (transfer_at b t)) 8 f.transfers,
      )
