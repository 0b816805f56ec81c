-- An accepted begin keeps the invariant: the credits leave the source, in both books; then they are under way, and in the plain book
-- at the place where they end.
use mathlib.Core.Path.{◌≡◌, refl, sym, ap, ◌∙◌, fun_ext}
use mathlib.Core.Logic.{◌≢◌}
use mathlib.Core.Bool.{Bool, true, false, cond}
use mathlib.Core.Option.{some, none}
use mathlib.Core.List.{List}
use Prim.Native.Nat.{ℕ, ◌+◌, ◌-◌, ◌≤◌, ◌<◌}
use native.Mathlib.Omega.{arith}
use Rattle.amount.specs.Numbers.{limit}
use Rattle.amount.proofs.Halves.{val_halves}
use Rattle.sheet.specs.Fields.{Field, field, text, subject, amount, to_subject}
use Rattle.registry.specs.Readers.{amount_in}
use Rattle.profiles.specs.Balance.{balance_rules}
use Rattle.book.specs.Places.{put_field}
use Rattle.book.specs.Book.{whole_amount, name_bytes, place_record, place_at, transfer_at, carried_by, total, is_some, set_balance, set_credits, set_transfer}
use Rattle.book.specs.Steps.{Begin, credits_in, said, seen, tests_begin, first_refusal, held_at, lessened}
use Rattle.book.specs.Plain.{Holding, Plain, worth, stock, holds, plain_credits, plain_view, plain_seen, plain_answer}
use Rattle.book.specs.Claim.{route, cell, cell_at}
use Rattle.book.specs.declared.Transfer.{Transfer}
use Rattle.book.specs.declared.Book.{Book}
use Rattle.book.proofs.Tables.{Altered, altered_all, altered_map, altered_is}
use Rattle.book.proofs.Rows.{Affords, transfer_affords}
use Rattle.book.proofs.Facts.{follow, same, Begins, begins}
use Rattle.book.proofs.Views.{PlaceSet, TransferSet, same_transfers, same_unit, same_places, unit_same, good_transfer, transfer_set, transfer_sound, total_transfer, coming_transfer, coming, toward, toward_none, toward_hit, toward_miss}
use Rattle.book.proofs.Invariant.{Inv, Kept, credited, holding, view_there, is_none, place_is, plain_is, whole_is, SetBoth, credits_both, plain_credits_lem, plain_total_lem}
use Rattle.std.specs.Prelude.{Ok}

-- n credits that no place holds are put under way, and in the plain book into the place h where they end
module _ {d : ℕ → Bool} {b : Book} {l : Plain} (v : Inv d b l) (f g t n h : ℕ) (ends : cond (d t) f g ≡ h) (low : h < 16) (small : t < 8)
    (source : is_some (place_at b f) ≡ true) (to-open : is_some (place_at b g) ≡ true) (here : is_some (place_at b h) ≡ true)
    (free : transfer_at b t ≡ none) (room : total b + n < limit) where
  r : Transfer
  r = record { from = f; to = g; amount = whole_amount n }

  c : Book
  unfolding r
  c = set_transfer b t 1 r

  m : Plain
  m = plain_credits l h (worth (l h) + n)

  e : TransferSet b c t (some r)
  unfolding r c
  e = transfer_set b t r v.good.shape small refl

  sent_total : total c ≡ total b + n
  unfolding r
  sent_total = omega (arith, total_transfer e small, ap carried_by free, val_halves n)

  there : l h ≡ holding (cell (place_record b h)) (held_at b h + coming d b h)
  there = plain_is v h low here

  a : Altered l m h (holding (cell (place_record b h)) (worth (l h) + n))
  unfolding m
  a = plain_credits_lem l h (held_at b h + coming d b h) (worth (l h) + n) (cell (place_record b h)) there

  coming_was : (q : ℕ) → coming d c q ≡ coming d b q + toward (d t) q (some r)
  coming_was q =
      omega (arith, coming_transfer e d d (λ s x. refl) small q, ap (toward (d t) q) free, toward_none (d t) q)

  coming_here : coming d c h ≡ coming d b h + n
  unfolding r
  coming_here = omega (arith, coming_was h, toward_hit (d t) h r ends, val_halves n)

  coming_else : (q : ℕ) → q ≢ h → coming d c q ≡ coming d b q
  unfolding r
  coming_else q x = omega (arith, coming_was q, toward_miss (d t) q r (λ z. x (sym z ∙ ends)))

  sent_matches : (q : ℕ) → q < 16 → m q ≡ credited (coming d c q) (cell_at c q)
  sent_matches q k = altered_all (λ i o. o ≡ credited (coming d c i) (cell_at c i)) a at_h q off
    where
      at_h : holding (cell (place_record b h)) (worth (l h) + n) ≡ credited (coming d c h) (cell_at c h)
      at_h =
          rw (same_places e.others h, place_is v h low here)
          (ap (holding (cell (place_record b h))) (omega (arith, coming_here, ap worth there)))

      off : q ≢ h → l q ≡ credited (coming d c q) (cell_at c q)
      off x = rw (coming_else q x, same_places e.others q) (v.matches q k)

  sent : Inv d c m
  unfolding r
  sent =
      record {
        good = good_transfer e (transfer_sound b r source to-open) v.good;
        fits = omega (arith, sent_total);
        sums = omega (arith, sent_total, plain_total_lem a low, ap stock there, ap worth there, v.sums);
        matches = sent_matches;
      }

-- taking n from a place of the plain book and giving it back changes nothing
back : (l : Plain) (p w n : ℕ) (s : Holding) → l p ≡ holding s w → n ≤ w
    → (q : ℕ) → plain_credits (plain_credits l p (worth (l p) - n)) p (worth (plain_credits l p (worth (l p) - n) p) + n) q ≡ l q
back l p w n s h k q =
    altered_all (λ i o. o ≡ l i) two (ap (holding s) full ∙ sym h) q (λ x. one.elsewhere q x)
  where
    one : Altered l (plain_credits l p (worth (l p) - n)) p (holding s (worth (l p) - n))
    one = plain_credits_lem l p w (worth (l p) - n) s h

    two : Altered (plain_credits l p (worth (l p) - n))
        (plain_credits (plain_credits l p (worth (l p) - n)) p (worth (plain_credits l p (worth (l p) - n) p) + n)) p
        (holding s (worth (plain_credits l p (worth (l p) - n) p) + n))
    two = plain_credits_lem (plain_credits l p (worth (l p) - n)) p (worth (l p) - n) (worth (plain_credits l p (worth (l p) - n) p) + n) s one.there

    full : worth (plain_credits l p (worth (l p) - n) p) + n ≡ w
    full = omega (arith, ap worth one.there, ap worth h)

-- the transfer's credits go to `to` in the end; where they go back the plain book is not fed the begin
pub kept_begin : (b : Book) (l : Plain) (f g t : ℕ) (i : List ℕ) (d : ℕ → Bool) → Inv d b l
    → first_refusal (tests_begin (seen b) f g t i) ≡ Ok tt → Kept d b l (Begin f g t i)
unfolding seen plain_seen plain_answer tests_begin credits_in r c m
kept_begin b l f g t i d v z =
    record {
      inv = invs (d t) refl;
      plain = λ _.
          follow (tests_begin (seen b) f g t i) (tests_begin (plain_seen u l) f g t i)
          (same, (same, (λ _. refl, (λ _. rw (there_f, there_g), (same, (λ _. ap said checks, tt)))))) z;
      unit = unit_same e₂.others ∙ same_unit e₁.others;
      moved = omega (arith, both.book, val_halves (lessened (held_at b f) n), enough, after_total);
      routes = λ q. altered_is (altered_map route e₂.transfers) q ∙ rw (val_halves n, same_transfers e₁.others q);
    }
  where
    k : Begins (seen b) f g t i
    k = begins (seen b) f g t i z

    u : List ℕ
    u = name_bytes b.unit

    n : ℕ
    n = credits_in amount i

    here_f : is_some (place_at b f) ≡ true
    here_f = sym (view_there u (place_at b f)) ∙ k.from_here

    here_g : is_some (place_at b g) ≡ true
    here_g = sym (view_there u (place_at b g)) ∙ k.to_here

    s_f : List ℕ
    s_f = name_bytes (place_record b f).subject

    s_g : List ℕ
    s_g = name_bytes (place_record b g).subject

    -- the sheet with the destination's subject put in, the same in both books
    inp : ℕ → Field
    inp = put_field (field i) to_subject (text s_g)

    a : Affords (place_record b f).balance inp false (λ w. balance_rules amount_in w inp 15)
    a =
        transfer_affords s_f u (place_record b f).balance (whole_is v f k.low_from here_f).balance inp
        (rw (place_is v f k.low_from here_f, place_is v g k.low_to here_g) at k.check)

    enough : n ≤ held_at b f
    enough = a.within refl

    checks : balance_rules amount_in (plain_view u (l f)) (put_field (field i) to_subject ((plain_view u (l g)).at subject)) 15 ≡ Ok tt
    checks =
        rw (plain_is v f k.low_from here_f, plain_is v g k.low_to here_g)
        (a.more s_f u (whole_amount (held_at b f + coming d b f)) refl (rw (val_halves (held_at b f + coming d b f)) (omega arith)))

    there_f : l f ≡ holding (cell (place_record b f)) (held_at b f + coming d b f)
    there_f = plain_is v f k.low_from here_f

    there_g : l g ≡ holding (cell (place_record b g)) (held_at b g + coming d b g)
    there_g = plain_is v g k.low_to here_g

    b₁ : Book
    b₁ = set_credits b f (lessened (held_at b f) n)

    both : SetBoth d b l f (set_balance (place_record b f) (whole_amount (lessened (held_at b f) n))) (holds (l f) (worth (l f) - n))
    both =
        credits_both v f k.low_from here_f (lessened (held_at b f) n) (worth (l f) - n) (omega (arith, enough, ap worth there_f)) (omega (arith, enough, v.fits))

    e₁ : PlaceSet b b₁ f (some (set_balance (place_record b f) (whole_amount (lessened (held_at b f) n))))
    e₁ = both.set

    stays : (q : ℕ) → is_some (place_at b q) ≡ true → is_some (place_at b₁ q) ≡ true
    stays q h = altered_all (λ j o. is_some o ≡ true) e₁.places refl q (λ x. h)

    room : total b₁ + n < limit
    room = omega (arith, both.book, val_halves (lessened (held_at b f) n), enough, v.fits)

    free : transfer_at b₁ t ≡ none
    free = same_transfers e₁.others t ∙ is_none (transfer_at b t) k.free

    e₂ : TransferSet b₁ (set_transfer b₁ t 1 (record { from = f; to = g; amount = whole_amount n })) t (some (record { from = f; to = g; amount = whole_amount n }))
    e₂ = transfer_set b₁ t _ both.inv.good.shape k.low_number refl

    after_total : total (set_transfer b₁ t 1 (record { from = f; to = g; amount = whole_amount n })) ≡ total b₁ + n
    after_total = omega (arith, total_transfer e₂ k.low_number, ap carried_by free, val_halves n)

    invs : (x : Bool) → d t ≡ x → Inv d (set_transfer b₁ t 1 (record { from = f; to = g; amount = whole_amount n }))
        (cond (d t) l (plain_credits (plain_credits l f (worth (l f) - n)) g (worth (plain_credits l f (worth (l f) - n) g) + n)))
    invs false h = rw h (sent both.inv f g t n g (rw h) k.low_to k.low_number (stays f here_f) (stays g here_g) (stays g here_g) free room)
    invs true h =
        rw (h, ← (fun_ext (back l f (held_at b f + coming d b f) n (cell (place_record b f)) there_f (omega (arith, enough)))))
        (sent both.inv f g t n f (rw h) k.low_from k.low_number (stays f here_f) (stays g here_g) (stays f here_f) free room)
