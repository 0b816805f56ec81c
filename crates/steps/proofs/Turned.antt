-- The turn of a step: what it looks at in a book, what a refusal and an acceptance leave, and that, stored, is the book after the step.
use mathlib.Core.Path.{◌≡◌, refl, sym, ap, subst, ◌∙◌}
use mathlib.Core.Bool.{Bool, true, false}
use mathlib.Core.List.{List, [], ◌∷◌}
use Prim.Native.Nat.{ℕ, zero, suc, ◌+◌, ◌%◌, ◌<◌}
use native.Mathlib.Nat.{mod-eq_of_lt}
use native.Mathlib.Omega.{arith}
use lib.ListN.{get_or, set}
use Rattle.amount.specs.Numbers.{halves}
use Rattle.audit.specs.Totals.{total_of}
use Rattle.amount.specs.declared.uint128.Uint128.{Uint128}
use Rattle.book.specs.Book.{no_place, no_transfer, place_record, transfer_record, total, is_well_formed}
use Rattle.book.specs.Steps.{Step, answer, effect, next, issues, takes}
use Rattle.book.specs.declared.Name.{Name}
use Rattle.book.specs.declared.Transfer.{Transfer}
use Rattle.book.specs.declared.Book.{Book}
use Rattle.book.specs.declared.error.BookError.{BookError}
use Rattle.book.proofs.Formed.{formed}
use Rattle.steps.proofs.Looks.{transfer_low}
use Rattle.steps.specs.Turn.{with_sheet, transfer_of, spot, Shows, stored_at, stored, whole_of, Turned}
use Rattle.steps.specs.declared.step.Step.{Step as Kind}
use Rattle.steps.specs.declared.step.View.{View}
use Rattle.std.specs.Prelude.{Option, Some, None, ok_or, Result, Ok, Err}

-- ---- to store what was read alters nothing

set_back : {A : Type 0} (d : A) (l : List A) (i : ℕ) → set l i (get_or l i d) ≡ l
set_back d [] i = refl
set_back d (x ∷ l) zero = refl
set_back {A} d (x ∷ l) (suc i) = ap (λ (m : List A). x ∷ m) (set_back d l i)

pub place_back : (b : Book) (p : ℕ) → set b.places p (place_record b p) ≡ b.places
unfolding place_record
place_back b p = set_back no_place b.places p

pub transfer_back : (b : Book) (t : ℕ) → set b.transfers t (transfer_record b t) ≡ b.transfers
unfolding transfer_record
transfer_back b t = set_back no_transfer b.transfers t

-- the record of the transfer that a step looks at, of a view
abbrev pub carrying : View → ℕ → Transfer
carrying x scale = record { from = x.from; to = x.to; amount = record { mantissa = x.carried; scale = scale } }

module _ {b : Book} {s : Kind} {x : View} (v : Shows b s x) where
  -- a transfer that is left as it was, stored in a sound book
  pub carried_back : is_well_formed b ≡ true → set b.transfers (transfer_of s) (carrying x 0) ≡ b.transfers
  carried_back w =
      let whole : carrying x 0 ≡ transfer_record b (transfer_of s) =
      ap (carrying x) (sym ((formed b w).whole_transfers (transfer_of s) (transfer_low s refl))) ∙ rw (v.from, v.to, v.carried) in
      ap (set b.transfers (transfer_of s)) whole ∙ transfer_back b (transfer_of s)

-- what a place on a sound book holds is what the step looks at
pub held_whole : {b : Book} {s : Kind} {x : View} → Shows b s x → is_well_formed b ≡ true → (p : ℕ) → spot b s ≡ p % 16 → p < 16
    → (place_record b p).balance ≡ whole_of x.held
held_whole {b} {s} {x} v w p e low =
    let h : x.held ≡ (place_record b p).balance.mantissa = v.held ∙ rw (e, mod-eq_of_lt low) in
    rw (h, ← ((formed b w).whole_places p low).balance)

-- and what it has reserved, by its mantissa
pub reserved_whole : (b : Book) → is_well_formed b ≡ true → (p : ℕ) → p < 16 → {r : Uint128} → r ≡ (place_record b p).reserved.mantissa
    → whole_of r ≡ (place_record b p).reserved
reserved_whole b w p low {r} h = rw (h, ← ((formed b w).whole_places p low).reserved)

-- ---- the total that a step is shown

module _ {b : Book} {s : Kind} {x : View} (v : Shows b s x) where
  -- a book that has one passes test 28
  pub counted : {n : Uint128} → x.total ≡ Some n → (is_well_formed b ≡ true) × (n ≡ halves (total b))
  unfolding total_of
  counted {n} e = go (is_well_formed b) refl
    where
      go : (t : Bool) → is_well_formed b ≡ t → (is_well_formed b ≡ true) × (n ≡ halves (total b))
      go true h = let k : x.total ≡ Some (halves (total b)) = rw h at v.total in (h, cc)
      go false h = let k : x.total ≡ None = rw h at v.total in let z : ◌≡◌ {A = ℕ} 0 1 = cc in absurd (omega arith)

  pub uncounted : x.total ≡ None → is_well_formed b ≡ false
  unfolding total_of
  uncounted e = go (is_well_formed b) refl
    where
      go : (t : Bool) → is_well_formed b ≡ t → is_well_formed b ≡ false
      go true h = let k : x.total ≡ Some (halves (total b)) = rw h at v.total in let z : ◌≡◌ {A = ℕ} 0 1 = cc in absurd (omega arith)
      go false h = h

  -- it stays where a step issues and takes nothing
  pub uncharged : is_well_formed b ≡ true → {m : ℕ} → total b ≡ m → x.total ≡ Some (halves m)
  unfolding total_of
  uncharged h e = v.total ∙ rw (h, e)

-- ---- what `ok_or` told

pub some_told : {A E : Type 0} (o : Option A) (e : E) (x : A) → ok_or o e ≡ Ok x → o ≡ Some x
some_told (Some y) e x h = cc
some_told None e x h = let z : ◌≡◌ {A = ℕ} 0 1 = cc in absurd (omega arith)

pub none_told : {A E : Type 0} (o : Option A) (e f : E) → ok_or o e ≡ Err f → (o ≡ None) × (f ≡ e)
none_told (Some y) e f h = let z : ◌≡◌ {A = ℕ} 0 1 = cc in absurd (omega arith)
none_told None e f h = (refl, cc)

-- ---- a refusal, and an acceptance

pub next_kept : (b : Book) (s : Step) (e : BookError) → Err e ≡ answer b s → b ≡ next b s
unfolding next
next_kept b s e h = rw (← h)

pub refuses : {b : Book} {s : Kind} (i : List ℕ) (e : BookError) (r : Result View BookError) → r ≡ Err e → Err e ≡ answer b (with_sheet s i) → Turned b s i r
refuses {b} {s} i e r h nay =
    rw h
    (record {
      answers = nay;
      book = next_kept b (with_sheet s i) e nay;
      total = λ x k. let z : ◌≡◌ {A = ℕ} 0 1 = cc in absurd (omega arith);
    })

pub accepts : {b : Book} {s : Kind} (i : List ℕ) (y : View) → answer b (with_sheet s i) ≡ Ok tt → stored b s i (Ok y) ≡ effect b (with_sheet s i)
    → ((m : ℕ) → m + takes (with_sheet s i) ≡ total b + issues (with_sheet s i) → y.total ≡ Some (halves m)) → Turned b s i (Ok y)
unfolding next
accepts {b} {s} i y yes· stores sums =
    record {
      answers = sym yes·;
      book = rw yes· stores;
      total = λ x k. let same : y ≡ x = cc in rw (← same) sums;
    }

-- what is stored in a sound book: all scales are 0
pub stored_whole : (b : Book) (p t : ℕ) (n : Name) (x : View) → is_well_formed b ≡ true → p < 16 → t < 8
    → stored_at b p t n x
    ≡ record {
      unit = b.unit;
      opened = x.opened;
      pending = x.pending;
      places = set b.places p (record { subject = n; balance = whole_of x.held; reserved = whole_of x.reserved });
      transfers = set b.transfers t (carrying x 0);
    }
unfolding stored_at
stored_whole b p t n x w low low-t =
    let z = (formed b w).whole_places p low in rw (z.balance, z.reserved, (formed b w).whole_transfers t low-t)

-- ---- an arm: s is the step that was matched, z what it is

pub arm : (b : Book) (i : List ℕ) (x : View) (r : Result View BookError) {s z : Kind} → s ≡ z → (Shows b z x → Turned b z i r) → Shows b s x → Turned b s i r
arm b i x r e f = subst (λ (k : Kind). Shows b k x → Turned b k i r) (sym e) f
