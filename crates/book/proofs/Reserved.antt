-- Document 02, request 5: what reserve and release do to a place and when a release is refused, what open makes of a reserved amount, and that
-- no other step but a close alters one. On any book value.
use mathlib.Core.Path.{◌≡◌, refl, ap, ◌∙◌}
use mathlib.Core.Logic.{◌≢◌}
use mathlib.Core.Bool.{true}
use mathlib.Core.List.{List, [], ◌∷◌}
use Prim.Native.Nat.{ℕ, zero, suc, ◌+◌, ◌-◌, ◌<◌}
use native.Mathlib.Omega.{arith}
use lib.Dec.{ltb}
use lib.ListN.{length, get_or, set}
use lib.Seq.{get_or-set_same}
use borrow.Author.Tests.{lt-leb}
use Rattle.amount.proofs.Halves.{val_halves}
use Rattle.registry.specs.Refusals.{zero_amount}
use Rattle.sheet.specs.Fields.{field, amount}
use Rattle.book.specs.Book.{credits, no_place, place_record, place_at, is_some, is_well_formed, blank_place, open_place, set_record, set_transfer}
use Rattle.book.specs.Steps.{Step, Open, Act, Begin, Finish, Cancel, Close, credits_in, adds, acts, Doing, Issuing, Taking, Reserving, Releasing, doing, refused_if, first_refusal, sheet_sound, check_at, tests_act, seen, answer, set_aside, effect, next, held_at}
use Rattle.book.specs.Refusals.{BookOutcome}
use Rattle.book.specs.declared.Place.{Place}
use Rattle.book.specs.declared.Book.{Book}
use Rattle.book.specs.declared.error.BookError.TheVariants.{NotReserved}
use Rattle.book.proofs.Facts.{accepted_tests, Opens, opens, Acts, acts_so}
use Rattle.book.proofs.Answers.{there, its_reserved}
use Rattle.book.proofs.Effects.{within, released}
use Rattle.book.proofs.Whole.{next_accepted}
use Rattle.std.specs.Prelude.{Ok, Err}

-- what place p has reserved
abbrev pub reserved_at : Book → ℕ → ℕ
reserved_at b p = credits (place_record b p).reserved

-- ---- "reserve moves credits there, release moves them back". Premises: 16 places, as every book has that code holds; the step is accepted

module _ (b : Book) (p : ℕ) (i : List ℕ) (size : length b.places ≡ 16) where
  abbrev asked : ℕ
  asked = credits_in amount i

  record_after : (o : ℕ) → answer b (Act p o i) ≡ Ok tt → place_record (next b (Act p o i)) p ≡ place_record (effect b (Act p o i)) p
  record_after o h = ap (λ (c : Book). place_record c p) (next_accepted b (Act p o i) h)

  low : (o : ℕ) → answer b (Act p o i) ≡ Ok tt → p < 16
  low o h = let t : Acts (seen b) p o i = acts_so (seen b) p o i (accepted_tests b (Act p o i) h).1 in t.low

  pub reserve_moves : answer b (Act p 16 i) ≡ Ok tt
      → (held_at (next b (Act p 16 i)) p + asked ≡ held_at b p) × (reserved_at (next b (Act p 16 i)) p ≡ reserved_at b p + asked)
  unfolding adds doing place_record set_record
  reserve_moves h =
      let after = record_after 16 h ∙ get_or-set_same b.places p _ no_place (rw size (low 16 h)) in
      (rw (after, val_halves (held_at b p - asked)) (omega (arith, within b p 16 i h refl)), rw (after, val_halves (reserved_at b p + asked)))

  pub release_moves : answer b (Act p 17 i) ≡ Ok tt
      → (held_at (next b (Act p 17 i)) p ≡ held_at b p + asked) × (reserved_at (next b (Act p 17 i)) p + asked ≡ reserved_at b p)
  unfolding adds doing place_record set_record
  release_moves h =
      let after = record_after 17 h ∙ get_or-set_same b.places p _ no_place (rw size (low 17 h)) in
      (rw (after, val_halves (held_at b p + asked)), rw (after, val_halves (reserved_at b p - asked)) (omega (arith, released b p 17 i h refl)))

-- ---- "31 "not reserved", in release after its check, if the amount exceeds what the place has reserved", and by nothing else: not by 25.
-- Premises: 28, 22, 6 and 2 are not met, and its check accepts

pub release_answers : (b : Book) (p : ℕ) (i : List ℕ) → is_well_formed b ≡ true → p < 16 → is_some (place_at b p) ≡ true → sheet_sound i ≡ Ok tt
    → check_at (seen b) p (field i) 17 ≡ Ok tt → answer b (Act p 17 i) ≡ refused_if (ltb (reserved_at b p) (credits_in amount i)) NotReserved
unfolding answer tests_act acts doing
release_answers b p i sound low here sheet check =
    rw (sound, lt-leb 16 p low, there b p here, sheet, check, its_reserved b p here) (alone _)
  where
    alone : (x : BookOutcome) → first_refusal (x ∷ []) ≡ x
    alone (Ok _) = refl
    alone (Err e) = refl

-- ---- "set to zero by open". Premises as above

pub open_reserves_nothing : (b : Book) (p : ℕ) (i : List ℕ) → length b.places ≡ 16 → answer b (Open p i) ≡ Ok tt
    → (place_record (next b (Open p i)) p).reserved ≡ zero_amount
unfolding next place_record open_place blank_place
open_reserves_nothing b p i size h =
    let t : Opens (seen b) p i = opens (seen b) p i (accepted_tests b (Open p i) h).1 in
    rw h (ap (λ (x : Place). x.reserved) (get_or-set_same b.places p _ no_place (rw size t.low)))

-- ---- no other step alters a reserved amount, but a close, which leaves zeros

abbrev pub Leaves : Step → Type 0
Leaves (Open p i) = ⊥
Leaves (Act p o i) = (doing o ≢ Reserving) × (doing o ≢ Releasing)
Leaves (Begin f g t i) = Unit {0}
Leaves (Finish t) = Unit {0}
Leaves (Cancel t) = Unit {0}
Leaves (Close p) = ⊥

-- a record set to one with the same reserved amount
set_alike : (l : List Place) (p : ℕ) (x : Place) → x.reserved ≡ (get_or l p no_place).reserved → (q : ℕ)
    → (get_or (set l p x) q no_place).reserved ≡ (get_or l q no_place).reserved
set_alike [] p x e q = refl
set_alike (y ∷ l) zero x e zero = e
set_alike (y ∷ l) zero x e (suc q) = refl
set_alike (y ∷ l) (suc p) x e zero = refl
set_alike (y ∷ l) (suc p) x e (suc q) = set_alike l p x e q

pub reserved_stays : (b : Book) (s : Step) → Leaves s → (q : ℕ) → (place_record (next b s) q).reserved ≡ (place_record b q).reserved
unfolding next place_record set_record set_transfer
reserved_stays b s z q = go (answer b s) refl
  where
    acted : (k : Doing) (n : ℕ) (x : Place) → (k ≢ Reserving) × (k ≢ Releasing) → (set_aside k n x).reserved ≡ x.reserved
    acted Issuing n x y = refl
    acted Taking n x y = refl
    acted Reserving n x y = absurd (y.0 refl)
    acted Releasing n x y = absurd (y.1 refl)

    kept : (s : Step) → Leaves s → (place_record (effect b s) q).reserved ≡ (place_record b q).reserved
    kept (Open p i) y = absurd y
    kept (Act p o i) y = set_alike b.places p _ (acted (doing o) _ _ y) q
    kept (Begin f g t i) y = set_alike b.places f _ refl q
    kept (Finish t) y = set_alike b.places _ _ refl q
    kept (Cancel t) y = set_alike b.places _ _ refl q
    kept (Close p) y = absurd y

    go : (o : BookOutcome) → answer b s ≡ o → (place_record (next b s) q).reserved ≡ (place_record b q).reserved
    go (Ok _) e = rw e (kept s z)
    go (Err r) e = rw e
