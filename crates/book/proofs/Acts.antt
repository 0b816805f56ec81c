-- An accepted act keeps the invariant.
use mathlib.Core.Path.{◌≡◌, refl, sym, ap, ◌∙◌}
use mathlib.Core.Bool.{Bool, true, false}
use mathlib.Core.Option.{Option, some}
use mathlib.Core.List.{List}
use Prim.Native.Nat.{ℕ, ◌+◌, ◌-◌, ◌≤◌, ◌<◌}
use native.Mathlib.Omega.{arith}
use lib.Dec.{leb, ltb}
use borrow.Author.Tests.{leb-false, ltb-false}
use Rattle.amount.specs.Numbers.{limit}
use Rattle.amount.proofs.Halves.{val_halves}
use Rattle.sheet.specs.Fields.{field, amount}
use Rattle.registry.specs.Readers.{amount_in}
use Rattle.profiles.specs.Balance.{balance_rules}
use Rattle.book.specs.Book.{credits, whole_amount, name_bytes, place_record, place_at, reserved_in, stock_of, is_some}
use Rattle.book.specs.Steps.{Act, credits_in, Doing, Issuing, Taking, Reserving, Releasing, doing, adds, changed, set_aside, act_on, inflow, outflow, act_flow, said, Seen, after_check, seen, tests_act, first_refusal, held_at}
use Rattle.book.specs.Plain.{Holding, Plain, plain_view, plain_act_on, plain_seen, plain_answer}
use Rattle.book.specs.Claim.{route, cell, shown}
use Rattle.book.specs.declared.Place.{Place}
use Rattle.book.specs.declared.Book.{Book}
use Rattle.book.specs.declared.error.BookError.TheVariants.{TooMuch, NotReserved}
use Rattle.book.proofs.Rows.{rises, adds_is, Affords, act_affords}
use Rattle.book.proofs.Formed.{Whole}
use Rattle.book.proofs.Facts.{unmet, follow, same, Acts, acts_so}
use Rattle.book.proofs.Views.{same_transfers, same_unit, coming}
use Rattle.book.proofs.Invariant.{Inv, Kept, holding, credited, view_there, place_is, plain_is, whole_is, SetBoth, set_both, credits_whole}
use Rattle.std.specs.Prelude.{Ok}

-- ---- what an act makes of a place, by what its operation does

module _ (n : ℕ) (x : Place) where
  -- what is set aside leaves the subject and the balance
  pub aside_apart : (k : Doing) → ((set_aside k n x).subject ≡ x.subject) × ((set_aside k n x).balance ≡ x.balance)
  aside_apart Issuing = (refl, refl)
  aside_apart Taking = (refl, refl)
  aside_apart Reserving = (refl, refl)
  aside_apart Releasing = (refl, refl)

  aside_whole : (k : Doing) → Whole x → Whole (set_aside k n x)
  aside_whole Issuing w = w
  aside_whole Taking w = w
  aside_whole Reserving w = record { balance = w.balance; reserved = refl }
  aside_whole Releasing w = record { balance = w.balance; reserved = refl }

module _ (x : Place) (n o : ℕ) where
  -- what it takes is there, and what it releases
  record Enough (k : Doing) : Type 0 where
    held : rises k ≡ false → n ≤ credits x.balance
    reserved : k ≡ Releasing → n ≤ credits x.reserved

  act_stock : (k : Doing) → doing o ≡ k → Enough k
      → stock_of (some (act_on o n x)) + outflow (act_flow (doing o) n) ≡ stock_of (some x) + inflow (act_flow (doing o) n)
  act_stock Issuing z e = rw (adds_is o Issuing z, z) (omega (arith, val_halves (credits x.balance + n)))
  act_stock Taking z e = rw (adds_is o Taking z, z) (omega (arith, val_halves (credits x.balance - n), e.held refl))
  act_stock Reserving z e =
      rw (adds_is o Reserving z, z) (omega (arith, val_halves (credits x.balance - n), val_halves (credits x.reserved + n), e.held refl))
  act_stock Releasing z e =
      rw (adds_is o Releasing z, z) (omega (arith, val_halves (credits x.balance + n), val_halves (credits x.reserved - n), e.reserved refl))

  -- its cell, with r reserved and m held
  abbrev with : ℕ → ℕ → Option Holding
  with r m = some (record { subject = name_bytes x.subject; balance = m; reserved = r })

  -- in the plain book, where c credits more are held
  act_cell : (c : ℕ) (k : Doing) → doing o ≡ k → Enough k
      → plain_act_on o n (holding (cell x) (credits x.balance + c)) ≡ credited c (shown (some (act_on o n x)))
  act_cell c Issuing z e = rw (adds_is o Issuing z, z, val_halves (credits x.balance + n)) (ap (holding (cell x)) (omega arith))
  act_cell c Taking z e = rw (adds_is o Taking z, z, val_halves (credits x.balance - n)) (ap (holding (cell x)) (omega (arith, e.held refl)))
  act_cell c Reserving z e =
      rw (adds_is o Reserving z, z, val_halves (credits x.balance - n), val_halves (credits x.reserved + n)) (ap (with (credits x.reserved + n)) (omega (arith, e.held refl)))
  act_cell c Releasing z e =
      rw (adds_is o Releasing z, z, val_halves (credits x.balance + n), val_halves (credits x.reserved - n)) (ap (with (credits x.reserved - n)) (omega arith))

  act_whole : Whole x → Whole (act_on o n x)
  act_whole w = aside_whole n _ (doing o) (credits_whole x (changed o (credits x.balance) n) w)

-- what 25 says: there is room for what it issues
room : (k : Doing) (s : Seen) (p n : ℕ) → s.total < limit → after_check k s p n ≡ Ok tt → s.total + inflow (act_flow k n) < limit
room Issuing s p n h e = leb-false limit (s.total + n) (unmet (leb limit (s.total + n)) TooMuch e)
room Taking s p n h e = omega arith
room Reserving s p n h e = omega arith
room Releasing s p n h e = omega arith

-- the tests after the check go by the total, and by what the place has reserved
after_same : (k : Doing) (s s' : Seen) (p n : ℕ) → s'.total ≡ s.total → s'.reserved p ≡ s.reserved p → after_check k s p n ≡ Ok tt → after_check k s' p n ≡ Ok tt
after_same Issuing s s' p n e r h = rw e h
after_same Taking s s' p n e r h = refl
after_same Reserving s s' p n e r h = refl
after_same Releasing s s' p n e r h = rw r h

pub kept_act : (b : Book) (l : Plain) (p o : ℕ) (i : List ℕ) (d : ℕ → Bool) → Inv d b l → first_refusal (tests_act (seen b) p o i) ≡ Ok tt
    → Kept d b l (Act p o i)
unfolding seen plain_seen plain_answer credits_in tests_act
kept_act b l p o i d v t =
    record {
      inv = both.inv;
      plain = λ _.
          follow (tests_act (seen b) p o i) (tests_act (plain_seen u l) p o i)
          (same, (λ _. rw there, (same, (same, (λ _. ap said checks, (after_same k (seen b) (plain_seen u l) p n v.sums (rw (there, place_is v p f.low here)), tt)))))) t;
      unit = same_unit both.set.others;
      moved = omega (arith, both.book, act_stock x n o k refl enough);
      routes = λ q. ap route (same_transfers both.set.others q);
    }
  where
    f : Acts (seen b) p o i
    f = acts_so (seen b) p o i t

    u : List ℕ
    u = name_bytes b.unit

    s : List ℕ
    s = name_bytes (place_record b p).subject

    n : ℕ
    n = credits_in amount i

    here : is_some (place_at b p) ≡ true
    here = sym (view_there u (place_at b p)) ∙ f.here

    x : Place
    x = place_record b p

    k : Doing
    k = doing o

    held : ℕ
    held = held_at b p + coming d b p

    there : l p ≡ holding (cell x) held
    there = plain_is v p f.low here

    a : Affords x.balance (field i) (adds o) (λ w. balance_rules amount_in w (field i) o)
    a = act_affords s u x.balance (whole_is v p f.low here).balance (field i) o f.operation (rw (place_is v p f.low here) at f.check)

    checks : balance_rules amount_in (plain_view u (l p)) (field i) o ≡ Ok tt
    checks = rw there (a.more s u (whole_amount held) refl (rw (val_halves held) (omega arith)))

    enough : Enough x n o k
    enough =
        record {
          held = λ e. a.within (adds_is o k refl ∙ e);
          reserved = λ z.
              let kept : ℕ = reserved_in (place_at b p) in
              rw (place_is v p f.low here) at (ltb-false kept n (unmet (ltb kept n) NotReserved (rw z at f.after_check_lem)));
        }

    both : SetBoth d b l p (act_on o n x) (plain_act_on o n (l p))
    both =
        set_both v p f.low here (act_on o n x) (act_whole x n o (whole_is v p f.low here)) (aside_apart n _ k).0 (plain_act_on o n (l p))
        (rw there (act_cell x n o (coming d b p) k refl enough)) (omega (arith, room k (seen b) p n v.fits f.after_check_lem, act_stock x n o k refl enough))
