-- What a book shows after each of its alterations, and what stays sound: all that the proofs of the steps know of a book.
use mathlib.Core.Path.{◌≡◌, refl, sym, ap, ◌∙◌}
use mathlib.Core.Logic.{◌≢◌}
use mathlib.Core.Bool.{Bool, true, false, cond, true≢false, false≢true}
use mathlib.Core.Option.{Option, some, none}
use mathlib.Core.List.{List, []}
use Prim.Native.Nat.{ℕ, ◌+◌, ◌^◌, ◌<◌}
use native.Mathlib.Decide.{dec_lt}
use native.Mathlib.Omega.{arith}
use lib.Dec.{eqb}
use lib.ListN.{get_or}
use borrow.Author.Tests.{eq-eqb, ne_eqb, eqb-true, eqb-false}
use Rattle.amount.specs.Numbers.{limit}
use Rattle.sheet.specs.Walk.{sum}
use Rattle.book.specs.Sets.{bit, entry}
use Rattle.book.specs.Book.{credits, blank_place, blank_transfer, no_place, no_transfer, place_record, transfer_record, place_at, transfer_at, stock_of, carried_by, stocks, credits_under_way, total, names_place, awaited, is_some, name_ok, place_ok, transfer_ok, is_well_formed, set_opened, set_pending, set_places, set_transfers, open_place, close_place, set_record, set_transfer}
use Rattle.book.specs.declared.Place.{Place}
use Rattle.book.specs.declared.Transfer.{Transfer}
use Rattle.book.specs.declared.Book.{Book}
use Rattle.book.proofs.Tables.{Altered, altered_map, altered_all, bit_high, entry_in, entry_out, entry_put, entry_set, entry_drop, Table, table_put, table_set, sum_same, sum_zero, sum_altered, any_none}
use Rattle.book.proofs.Facts.{or_l, or_r}
use Rattle.book.proofs.Formed.{Whole, whole, and_l, and_r, well_formed}

-- ---- the shape of a book: lengths, ranges, and all scales 0, in use or not

pub record Shape (b : Book) : Type 0 where
  pub places : Table no_place Whole 16 b.opened b.places
  pub transfers : Table no_transfer (λ r. r.amount.scale ≡ 0) 8 b.pending b.transfers

with_places : (b : Book) (n : ℕ) (l : List Place) → Shape b → Table no_place Whole 16 n l → Shape (set_places (set_opened b n) l)
with_places b n l s t = record { places = t; transfers = s.transfers }

with_transfers : (b : Book) (n : ℕ) (l : List Transfer) → Shape b → Table no_transfer (λ r. r.amount.scale ≡ 0) 8 n l
    → Shape (set_transfers (set_pending b n) l)
with_transfers b n l s t = record { places = s.places; transfers = t }

-- ---- an entry that is there

module _ {A : Type 0} (d : A) (n : ℕ) (l : List A) (p : ℕ) where
  pub entry_some : is_some (entry d n l p) ≡ true → (bit n p ≡ 1) × (entry d n l p ≡ some (get_or l p d))
  unfolding entry
  entry_some h = go (eqb (bit n p) 1) refl
    where
      go : (t : Bool) → eqb (bit n p) 1 ≡ t → (bit n p ≡ 1) × (entry d n l p ≡ some (get_or l p d))
      go true e = (eqb-true (bit n p) 1 e, rw e)
      go false e = absurd (false≢true (rw e at h))

pub place_raw : (b : Book) (p : ℕ) → is_some (place_at b p) ≡ true → (bit b.opened p ≡ 1) × (place_at b p ≡ some (place_record b p))
unfolding place_at place_record
place_raw b p h = entry_some no_place b.opened b.places p h

pub transfer_raw : (b : Book) (t : ℕ) → is_some (transfer_at b t) ≡ true → (bit b.pending t ≡ 1) × (transfer_at b t ≡ some (transfer_record b t))
unfolding transfer_at transfer_record
transfer_raw b t h = entry_some no_transfer b.pending b.transfers t h

pub transfer_in : (b : Book) (t : ℕ) → bit b.pending t ≡ 1 → transfer_at b t ≡ some (transfer_record b t)
unfolding transfer_at transfer_record
transfer_in b t h = entry_in no_transfer b.pending b.transfers t h

-- only places below 16 are open
pub open_lt : (b : Book) → b.opened < 2 ^ 16 → (p : ℕ) → is_some (place_at b p) ≡ true → p < 16
open_lt b s p h = go (dec_lt p 16)
  where
    go : Dec (p < 16) → p < 16
    go (yes l) = l
    go (no m) = let z : bit b.opened p ≡ 0 = bit_high 16 b.opened p s (omega arith) in absurd (omega (arith, (place_raw b p h).0))

pub pending_lt : (b : Book) → Shape b → (t : ℕ) → bit b.pending t ≡ 1 → t < 8
pending_lt b s t h = go (dec_lt t 8)
  where
    go : Dec (t < 8) → t < 8
    go (yes l) = l
    go (no m) = let z : bit b.pending t ≡ 0 = bit_high 8 b.pending t s.transfers.range (omega arith) in absurd (omega arith)

-- ---- a book in which one place, or one transfer, was set

-- all but the places, or all but the transfers, is as it was
pub record ButPlaces (b c : Book) : Type 0 where
  pub same : set_places (set_opened c 0) [] ≡ set_places (set_opened b 0) []

pub record ButTransfers (b c : Book) : Type 0 where
  pub same : set_transfers (set_pending c 0) [] ≡ set_transfers (set_pending b 0) []

pub record PlaceSet (b c : Book) (p : ℕ) (x : Option Place) : Type 0 where
  pub places : Altered (place_at b) (place_at c) p x
  pub others : ButPlaces b c
  pub shape : Shape c

pub record TransferSet (b c : Book) (t : ℕ) (y : Option Transfer) : Type 0 where
  pub transfers : Altered (transfer_at b) (transfer_at c) t y
  pub others : ButTransfers b c
  pub shape : Shape c

module _ {b c : Book} (e : ButPlaces b c) where
  pub same_transfers : (t : ℕ) → transfer_at c t ≡ transfer_at b t
  unfolding transfer_at
  same_transfers t = ap (λ (x : Book). transfer_at x t) e.same

  pub same_unit : c.unit ≡ b.unit
  same_unit = ap (λ (x : Book). x.unit) e.same

module _ {b c : Book} (e : ButTransfers b c) where
  pub same_places : (p : ℕ) → place_at c p ≡ place_at b p
  unfolding place_at
  same_places p = ap (λ (x : Book). place_at x p) e.same

  pub unit_same : c.unit ≡ b.unit
  unit_same = ap (λ (x : Book). x.unit) e.same

pub opened_set : (b : Book) (p : ℕ) (x : Place) → Shape b → p < 16 → Whole x → PlaceSet b (open_place b p x) p (some x)
unfolding place_at open_place
opened_set b p x s h w =
    record {
      places = entry_put no_place b.opened b.places p x (rw s.places.size h);
      others = record { same = refl };
      shape = with_places b _ _ s (table_put s.places p x h w 1 (omega arith));
    }

pub closed_set : (b : Book) (p : ℕ) → Shape b → p < 16 → PlaceSet b (close_place b p) p none
unfolding place_at close_place blank_place
closed_set b p s h =
    record {
      places = entry_drop no_place b.opened b.places p blank_place;
      others = record { same = refl };
      shape = with_places b _ _ s (table_put s.places p blank_place h (whole blank_place refl) 0 (omega arith));
    }

-- setting the record of an open place
pub record_set : (b : Book) (p : ℕ) (x : Place) → Shape b → p < 16 → is_some (place_at b p) ≡ true → Whole x
    → PlaceSet b (set_record b p x) p (some x)
unfolding place_at set_record
record_set b p x s h k w =
    record {
      places = entry_set no_place b.opened b.places p x (rw s.places.size h) (place_raw b p k).0;
      others = record { same = refl };
      shape = with_places b _ _ s (table_set s.places p x h w);
    }

pub transfer_set : (b : Book) (t : ℕ) (r : Transfer) → Shape b → t < 8 → r.amount.scale ≡ 0 → TransferSet b (set_transfer b t 1 r) t (some r)
unfolding transfer_at set_transfer
transfer_set b t r s h w =
    record {
      transfers = entry_put no_transfer b.pending b.transfers t r (rw s.transfers.size h);
      others = record { same = refl };
      shape = with_transfers b _ _ s (table_put s.transfers t r h w 1 (omega arith));
    }

pub transfer_gone : (b : Book) (t : ℕ) → Shape b → t < 8 → TransferSet b (set_transfer b t 0 blank_transfer) t none
unfolding transfer_at set_transfer blank_transfer
transfer_gone b t s h =
    record {
      transfers = entry_drop no_transfer b.pending b.transfers t blank_transfer;
      others = record { same = refl };
      shape = with_transfers b _ _ s (table_put s.transfers t blank_transfer h refl 0 (omega arith));
    }

-- ---- totals, and what is coming to a place

-- the place to which a transfer's credits go in the end: back, if it is to be cancelled
abbrev pub home : Bool → Transfer → ℕ
home back r = cond back r.from r.to

pub toward : Bool → ℕ → Option Transfer → ℕ
toward back p none = 0
toward back p (some r) = cond (eqb (home back r) p) (credits r.amount) 0

-- d t: transfer t is to be cancelled
unfoldable pub coming : (ℕ → Bool) → Book → ℕ → ℕ
coming d b p = sum (λ t. toward (d t) p (transfer_at b t)) 8

pub toward_none : (k : Bool) (p : ℕ) → toward k p none ≡ 0
unfolding toward
toward_none k p = refl

pub toward_hit : (k : Bool) (p : ℕ) (r : Transfer) → home k r ≡ p → toward k p (some r) ≡ credits r.amount
unfolding toward
toward_hit k p r e = rw (eq-eqb (home k r) p e)

pub toward_miss : (k : Bool) (p : ℕ) (r : Transfer) → home k r ≢ p → toward k p (some r) ≡ 0
unfolding toward
toward_miss k p r e = rw (ne_eqb (home k r) p e)

pub coming_same : (d : ℕ → Bool) (b c : Book) → ((t : ℕ) → transfer_at c t ≡ transfer_at b t) → (q : ℕ) → coming d c q ≡ coming d b q
unfolding coming
coming_same d b c e q =
    sum_same (λ t. toward (d t) q (transfer_at b t)) (λ t. toward (d t) q (transfer_at c t)) 8 (λ t k. ap (toward (d t) q) (e t))

module _ {b c : Book} {p : ℕ} {x : Option Place} (e : PlaceSet b c p x) where
  pub total_place : p < 16 → total c + stock_of (place_at b p) ≡ total b + stock_of x
  unfolding total stocks credits_under_way
  total_place h =
      omega (
        arith,
        sum_altered (altered_map stock_of e.places) 16 h,
        sum_same (λ t. carried_by (transfer_at b t)) (λ t. carried_by (transfer_at c t)) 8 (λ t k. ap carried_by (same_transfers e.others t)),
      )

module _ {b c : Book} {t : ℕ} {y : Option Transfer} (e : TransferSet b c t y) where
  pub total_transfer : t < 8 → total c + carried_by (transfer_at b t) ≡ total b + carried_by y
  unfolding total stocks credits_under_way
  total_transfer h =
      omega (
        arith,
        sum_altered (altered_map carried_by e.transfers) 8 h,
        sum_same (λ p. stock_of (place_at b p)) (λ p. stock_of (place_at c p)) 16 (λ p k. ap stock_of (same_places e.others p)),
      )

  -- the fates d before and d' after may differ at t alone
  pub coming_transfer : (d d' : ℕ → Bool) → ((s : ℕ) → s ≢ t → d' s ≡ d s) → t < 8 → (q : ℕ)
      → coming d' c q + toward (d t) q (transfer_at b t) ≡ coming d b q + toward (d' t) q y
  unfolding coming
  coming_transfer d d' agree h q = sum_altered turned 8 h
    where
      turned : Altered (λ s. toward (d s) q (transfer_at b s)) (λ s. toward (d' s) q (transfer_at c s)) t (toward (d' t) q y)
      turned =
          record {
            there = ap (toward (d' t) q) e.transfers.there;
            elsewhere = λ s x. rw (agree s x, e.transfers.elsewhere s x);
          }

-- ---- soundness apart from the total

pub record Good (b : Book) : Type 0 where
  pub shape : Shape b
  pub unit : name_ok b.unit ≡ true
  pub places : (p : ℕ) → p < 16 → place_ok (place_at b p) ≡ true
  pub transfers : (t : ℕ) → t < 8 → transfer_ok b (transfer_at b t) ≡ true

-- the ends of a sound transfer are open
pub home_open : (b : Book) (r : Transfer) (k : Bool) → transfer_ok b (some r) ≡ true → is_some (place_at b (home k r)) ≡ true
home_open b r true h = and_l (is_some (place_at b r.from)) (is_some (place_at b r.to)) h
home_open b r false h = and_r (is_some (place_at b r.from)) (is_some (place_at b r.to)) h

pub transfer_sound : (b : Book) (r : Transfer) → is_some (place_at b r.from) ≡ true → is_some (place_at b r.to) ≡ true
    → transfer_ok b (some r) ≡ true
transfer_sound b r h k = rw (h, k)

-- open places stay open: so transfers stay sound
ok_mono : (b c : Book) → ((p : ℕ) → is_some (place_at b p) ≡ true → is_some (place_at c p) ≡ true) → (o : Option Transfer)
    → transfer_ok b o ≡ true → transfer_ok c o ≡ true
ok_mono b c m none h = refl
ok_mono b c m (some r) h =
    transfer_sound c r (m r.from (home_open b r true h)) (m r.to (home_open b r false h))

pub good_place : {b c : Book} {p : ℕ} {x : Place} → PlaceSet b c p (some x) → place_ok (some x) ≡ true → Good b → Good c
good_place {b} {c} {p} {x} e k g =
    record {
      shape = e.shape;
      unit = rw (same_unit e.others) g.unit;
      places = λ q h. altered_all (λ i o. place_ok o ≡ true) e.places k q (λ d. g.places q h);
      transfers = λ t h. rw (same_transfers e.others t) (ok_mono b c stays (transfer_at b t) (g.transfers t h));
    }
  where
    stays : (q : ℕ) → is_some (place_at b q) ≡ true → is_some (place_at c q) ≡ true
    stays q h = altered_all (λ i o. is_some o ≡ true) e.places refl q (λ d. h)

pub good_transfer : {b c : Book} {t : ℕ} {y : Option Transfer} → TransferSet b c t y → transfer_ok b y ≡ true → Good b → Good c
good_transfer {b} {c} {t} {y} e k g =
    record {
      shape = e.shape;
      unit = rw (unit_same e.others) g.unit;
      places = λ q h. rw (same_places e.others q) (g.places q h);
      transfers = λ s h. ok_mono b c stays (transfer_at c s) (altered_all (λ i o. transfer_ok b o ≡ true) e.transfers k s (λ d. g.transfers s h));
    }
  where
    stays : (q : ℕ) → is_some (place_at b q) ≡ true → is_some (place_at c q) ≡ true
    stays q h = rw (same_places e.others q) h

-- a sound book passes the test of refusal 28
pub passes_28 : (b : Book) → Good b → total b < limit → is_well_formed b ≡ true
unfolding place_record transfer_record
passes_28 b g h =
    well_formed b (
    record {
      fits = h;
      unit = g.unit;
      places = g.places;
      whole_places = g.shape.places.wholes;
      whole_transfers = g.shape.transfers.wholes;
      transfers = g.transfers;
    }
    )

-- nothing is coming to a place that is not open
pub coming_closed : (d : ℕ → Bool) (b : Book) → Good b → (p : ℕ) → is_some (place_at b p) ≡ false → coming d b p ≡ 0
unfolding coming
coming_closed d b g p h = sum_zero (λ t. toward (d t) p (transfer_at b t)) 8 (λ t k. miss (d t) (transfer_at b t) (g.transfers t k))
  where
    miss : (k : Bool) (o : Option Transfer) → transfer_ok b o ≡ true → toward k p o ≡ 0
    miss k none z = toward_none k p
    miss k (some r) z =
        toward_miss k p r (λ e. true≢false (sym (home_open b r k z) ∙ ap (λ (q : ℕ). is_some (place_at b q)) e ∙ h))

-- nothing is coming where nothing is under way
pub none_coming : (d : ℕ → Bool) (b : Book) → ((t : ℕ) → bit b.pending t ≡ 0) → (p : ℕ) → coming d b p ≡ 0
unfolding coming transfer_at
none_coming d b h p =
    sum_zero (λ t. toward (d t) p (transfer_at b t)) 8
    (λ t k. ap (toward (d t) p) (entry_out no_transfer b.pending b.transfers t (h t)) ∙ toward_none (d t) p)

-- ---- a place that no transfer under way names

-- a transfer that does not name it has its ends elsewhere
home_apart : (p : ℕ) (r : Transfer) (k : Bool) → names_place p (some r) ≡ false → home k r ≢ p
home_apart p r true z = eqb-false r.from p (or_l (eqb r.from p) (eqb r.to p) z)
home_apart p r false z = eqb-false r.to p (or_r (eqb r.from p) (eqb r.to p) z)

module _ (b : Book) (p : ℕ) (bare : awaited b p ≡ false) where
  unnamed : (t : ℕ) → t < 8 → names_place p (transfer_at b t) ≡ false
  unfolding awaited
  unnamed = any_none (λ t. names_place p (transfer_at b t)) 8 bare

  -- nothing is coming to it
  pub coming_unnamed : (d : ℕ → Bool) → coming d b p ≡ 0
  unfolding coming
  coming_unnamed d = sum_zero (λ t. toward (d t) p (transfer_at b t)) 8 (λ t k. miss (d t) (transfer_at b t) (unnamed t k))
    where
      miss : (k : Bool) (o : Option Transfer) → names_place p o ≡ false → toward k p o ≡ 0
      miss k none z = toward_none k p
      miss k (some r) z = toward_miss k p r (home_apart p r k z)

  -- it may be closed: no transfer is stranded
  pub good_close : {c : Book} → PlaceSet b c p none → Good b → Good c
  good_close {c} e g =
      record {
        shape = e.shape;
        unit = rw (same_unit e.others) g.unit;
        places = λ q h. altered_all (λ i o. place_ok o ≡ true) e.places refl q (λ d. g.places q h);
        transfers = λ t h. rw (same_transfers e.others t) (stays (transfer_at b t) (unnamed t h) (g.transfers t h));
      }
    where
      end_stays : (r : Transfer) (k : Bool) → names_place p (some r) ≡ false → transfer_ok b (some r) ≡ true → is_some (place_at c (home k r)) ≡ true
      end_stays r k z h = rw (e.places.elsewhere (home k r) (home_apart p r k z)) (home_open b r k h)

      stays : (o : Option Transfer) → names_place p o ≡ false → transfer_ok b o ≡ true → transfer_ok c o ≡ true
      stays none z h = refl
      stays (some r) z h = transfer_sound c r (end_stays r true z h) (end_stays r false z h)
