-- An accepted open keeps the invariant.
use mathlib.Core.Path.{◌≡◌, refl, sym, ap, ◌∙◌}
use mathlib.Core.Bool.{Bool}
use mathlib.Core.Option.{Option, some, none}
use mathlib.Core.List.{List}
use Prim.Native.Nat.{ℕ, ◌+◌}
use native.Mathlib.Omega.{arith}
use Rattle.amount.specs.Numbers.{val}
use Rattle.amount.proofs.Halves.{val_halves}
use Rattle.registry.specs.Refusals.{zero_amount}
use Rattle.sheet.specs.Fields.{subject, balance}
use Rattle.book.specs.Book.{credits, whole_amount, name_bytes, name_of, blank_place, place_at, stock_of, total, is_some, set_subject, set_balance, open_place}
use Rattle.book.specs.Steps.{Open, credits_in, bytes_in, seen, tests_open, first_refusal}
use Rattle.book.specs.Plain.{Holding, Plain, stock, plain_total, plain_seen, plain_answer, plain_put}
use Rattle.book.specs.Claim.{route, shown}
use Rattle.book.specs.declared.Place.{Place}
use Rattle.book.specs.declared.Book.{Book}
use Rattle.book.proofs.Tables.{Altered}
use Rattle.book.proofs.Names.{name_bytes_lem, name_ok_lem}
use Rattle.book.proofs.Rows.{create_subject}
use Rattle.book.proofs.Facts.{follow, same, Opens, opens}
use Rattle.book.proofs.Formed.{whole}
use Rattle.book.proofs.Views.{PlaceSet, same_transfers, same_unit, opened_set, good_place, total_place, coming_closed, coming}
use Rattle.book.proofs.Invariant.{Inv, Kept, credited, holding, view_there, is_none, plain_put_lem, plain_total_lem, matches_place, credits_whole}
use Rattle.std.specs.Prelude.{Ok}

-- a fresh place has nothing reserved
val_zero : credits zero_amount ≡ 0
unfolding val
val_zero = refl

pub kept_open : (b : Book) (l : Plain) (p : ℕ) (i : List ℕ) (d : ℕ → Bool) → Inv d b l → first_refusal (tests_open (seen b) p i) ≡ Ok tt
    → Kept d b l (Open p i)
unfolding seen plain_seen plain_answer tests_open blank_place
kept_open b l p i d v t =
    record {
      inv =
          record {
            good = good_place e (name_ok_lem name (create_subject i (rw closed at f.check)) f.short) v.good;
            fits = omega (arith, after_total, f.room);
            sums = omega (arith, after_total, after_plain, v.sums);
            matches = matches_place d e a v.matches alike;
          };
      plain = λ _.
          follow (tests_open (seen b) p i) (tests_open (plain_seen u l) p i)
          (same, (λ _. rw shut, (same, (λ h. rw shut (rw closed at h), (same, (same, (λ h. rw v.sums h, tt))))))) t;
      unit = same_unit e.others;
      moved = omega (arith, after_total);
      routes = λ q. ap route (same_transfers e.others q);
    }
  where
    f : Opens (seen b) p i
    f = opens (seen b) p i t

    u : List ℕ
    u = name_bytes b.unit

    name : List ℕ
    name = bytes_in subject i

    n : ℕ
    n = credits_in balance i

    closed : place_at b p ≡ none
    closed = is_none (place_at b p) (sym (view_there u (place_at b p)) ∙ f.closed)

    shut : l p ≡ none
    shut = v.matches p f.low ∙ ap (λ (o : Option Place). credited (coming d b p) (shown o)) closed

    x : Place
    x = set_balance (set_subject blank_place (name_of name)) (whole_amount n)

    c : Book
    c = open_place b p x

    e : PlaceSet b c p (some x)
    e = opened_set b p x v.good.shape f.low (credits_whole (set_subject blank_place (name_of name)) n (whole (set_subject blank_place (name_of name)) refl))

    h : Holding
    h = record { subject = name; balance = n; reserved = 0 }

    a : Altered l (plain_put l p (some h)) p (some h)
    a = plain_put_lem l p (some h)

    nothing : coming d b p ≡ 0
    nothing = coming_closed d b v.good p (ap is_some closed)

    alike : some h ≡ credited (coming d b p) (shown (some x))
    alike = rw (name_bytes_lem name, val_halves n, nothing, val_zero) (ap (holding h) (omega arith))

    after_total : total c ≡ total b + n
    after_total = omega (arith, total_place e f.low, ap stock_of closed, val_halves n, val_zero)

    after_plain : plain_total (plain_put l p (some h)) ≡ plain_total l + n
    after_plain = omega (arith, plain_total_lem a f.low, ap stock shut)
