-- An accepted finish or cancel keeps the invariant, and every transfer under way can be finished or cancelled.
use mathlib.Core.Path.{◌≡◌, refl, sym, ap, ◌∙◌}
use mathlib.Core.Logic.{◌≢◌}
use mathlib.Core.Bool.{Bool, true, false, cond}
use mathlib.Core.Option.{some, none}
use Prim.Native.Nat.{ℕ, ◌+◌, ◌<◌}
use native.Mathlib.Omega.{arith}
use lib.Dec.{eqb}
use borrow.Author.Tests.{eq-eqb, ne_eqb}
use Rattle.amount.proofs.Halves.{val_halves}
use Rattle.book.specs.Sets.{bit}
use Rattle.book.specs.Book.{credits, whole_amount, blank_transfer, place_record, transfer_record, place_at, transfer_at, stock_of, carried_by, total, is_some, set_balance, set_credits, set_transfer}
use Rattle.book.specs.Steps.{Finish, Cancel, seen, tests_finish, first_refusal, held_at, raised, landed, answer, way}
use Rattle.book.specs.Plain.{Plain, plain_answer}
use Rattle.book.specs.Claim.{route, turned, cell, shown, cell_at}
use Rattle.book.specs.declared.Transfer.{Transfer}
use Rattle.book.specs.declared.Book.{Book}
use Rattle.book.proofs.Tables.{altered_all, altered_map, altered_is}
use Rattle.book.proofs.Facts.{Finishes, finishes, finished}
use Rattle.book.proofs.Views.{PlaceSet, TransferSet, same_transfers, same_unit, same_places, unit_same, record_set, good_place, good_transfer, transfer_gone, home, home_open, transfer_raw, transfer_in, open_lt, pending_lt, passes_28, total_place, total_transfer, coming_same, coming_transfer, coming, toward, toward_none, toward_hit, toward_miss}
use Rattle.book.proofs.Invariant.{Inv, Kept, credited, holding, place_is, plain_is, name_is, whole_is, credits_whole}
use Rattle.std.specs.Prelude.{Ok}

-- a transfer's end, at the place where its fate has it; k: the fate of transfer t, which alone may turn by this step
module _ (b : Book) (l : Plain) (t : ℕ) (d d' : ℕ → Bool) (k : Bool) (fate : d t ≡ k) (agree : (s : ℕ) → s ≢ t → d' s ≡ d s)
    (v : Inv d b l) (small : t < 8) (moving : is_some (transfer_at b t) ≡ true) where
  ended : Book
  ended = landed b t (home k (transfer_record b t))

  record Ended : Type 0 where
    inv : Inv d' ended l
    same_total : total ended ≡ total b
    unit : ended.unit ≡ b.unit
    routes : (q : ℕ) → route (transfer_at ended q) ≡ cond (eqb q t) none (route (transfer_at b q))

  ends : Ended
  unfolding ended
  ends =
      record {
        inv =
            record {
              good = good_transfer e₂ refl (good_place e₁ (name_is v g low here) v.good);
              fits = omega (arith, same, v.fits);
              sums = omega (arith, same, v.sums);
              matches = landed_at;
            };
        same_total = same;
        unit = unit_same e₂.others ∙ same_unit e₁.others;
        routes = λ q. altered_is (altered_map route e₂.transfers) q ∙ rw (same_transfers e₁.others q);
      }
    where
      r : Transfer
      r = transfer_record b t

      is_r : transfer_at b t ≡ some r
      is_r = (transfer_raw b t moving).1

      g : ℕ
      g = home k r

      n : ℕ
      n = credits r.amount

      here : is_some (place_at b g) ≡ true
      here = home_open b r k (rw is_r at (v.good.transfers t small))

      low : g < 16
      low = open_lt b v.good.shape.places.range g here

      m : Book
      m = set_credits b g (raised (held_at b g) n)

      c : Book
      c = set_transfer m t 0 blank_transfer

      e₁ : PlaceSet b m g (some (set_balance (place_record b g) (whole_amount (raised (held_at b g) n))))
      e₁ =
          record_set b g (set_balance (place_record b g) (whole_amount (raised (held_at b g) n))) v.good.shape low here
          (credits_whole (place_record b g) (raised (held_at b g) n) (whole_is v g low here))

      e₂ : TransferSet m c t none
      e₂ = transfer_gone m t e₁.shape small

      was : transfer_at m t ≡ some r
      was = same_transfers e₁.others t ∙ is_r

      same : total c ≡ total b
      same =
          omega (arith, total_place e₁ low, ap stock_of (place_is v g low here), val_halves (raised (held_at b g) n), total_transfer e₂ small, ap carried_by was)

      coming_was : (q : ℕ) → coming d' c q + toward k q (some r) ≡ coming d b q
      coming_was q =
          omega (
            arith,
            coming_transfer e₂ d d' agree small q,
            ap (toward (d t) q) was,
            ap (λ (i : Bool). toward i q (some r)) fate,
            toward_none (d' t) q,
            coming_same d b m (same_transfers e₁.others) q,
          )

      landed_at : (q : ℕ) → q < 16 → l q ≡ credited (coming d' c q) (cell_at c q)
      landed_at q z = rw (same_places e₂.others q) (altered_all (λ i o. l i ≡ credited (coming d' c i) (shown o)) e₁.places at_g q off)
        where
          at_g : l g ≡ credited (coming d' c g) (shown (some (set_balance (place_record b g) (whole_amount (raised (held_at b g) n)))))
          at_g =
              plain_is v g low here
              ∙ ap (holding (cell (place_record b g))) (omega (arith, coming_was g, toward_hit k g r refl, val_halves (raised (held_at b g) n)))

          off : q ≢ g → l q ≡ credited (coming d' c q) (cell_at b q)
          off x =
              let h : coming d' c q ≡ coming d b q = omega (arith, coming_was q, toward_miss k q r (λ y. x (sym y))) in
              rw h (v.matches q z)

-- the fates before it: it turns that of its own transfer
turned_at : (k : Bool) (d : ℕ → Bool) (t : ℕ) → cond (eqb t t) k (d t) ≡ k
turned_at k d t = rw (eq-eqb t t refl)

turned_off : (k : Bool) (d : ℕ → Bool) (t s : ℕ) → s ≢ t → d s ≡ cond (eqb s t) k (d s)
turned_off k d t s x = rw (ne_eqb s t x)

pub kept_finish : (b : Book) (l : Plain) (t : ℕ) (d : ℕ → Bool) → Inv (turned (way (Finish t)) d) b l → first_refusal (tests_finish (seen b) t) ≡ Ok tt
    → Kept d b l (Finish t)
unfolding ended seen plain_answer
kept_finish b l t d v z =
    let f : Finishes (seen b) t = finishes (seen b) t z in
    let u = ends b l t (turned (way (Finish t)) d) d false (turned_at false d t) (turned_off false d t) v f.low f.moving in
    record { inv = u.inv; plain = λ _. refl; unit = u.unit; moved = omega (arith, u.same_total); routes = u.routes }

pub kept_cancel : (b : Book) (l : Plain) (t : ℕ) (d : ℕ → Bool) → Inv (turned (way (Cancel t)) d) b l → first_refusal (tests_finish (seen b) t) ≡ Ok tt
    → Kept d b l (Cancel t)
unfolding ended seen plain_answer
kept_cancel b l t d v z =
    let f : Finishes (seen b) t = finishes (seen b) t z in
    let u = ends b l t (turned (way (Cancel t)) d) d true (turned_at true d t) (turned_off true d t) v f.low f.moving in
    record { inv = u.inv; plain = λ _. refl; unit = u.unit; moved = omega (arith, u.same_total); routes = u.routes }

-- the finish of a transfer under way would be accepted, and so would its cancel
pub finishable : (d : ℕ → Bool) (b : Book) (l : Plain) → Inv d b l → (t : ℕ) → bit b.pending t ≡ 1
    → (answer b (Finish t) ≡ Ok tt) × (answer b (Cancel t) ≡ Ok tt)
unfolding answer seen
finishable d b l v t h =
    let p = finished (seen b) t (record { low = pending_lt b v.good.shape t h; moving = ap is_some (transfer_in b t h) }) in
    (rw (passes_28 b v.good v.fits) p, rw (passes_28 b v.good v.fits) p)
