-- Where a step is accepted, on any book value, the arithmetic of amounts gives what its effect stores: reading an amount gives a whole
-- one, and neither 17 nor 18 arises.
use mathlib.Core.Path.{◌≡◌, refl, sym, ap, ◌∙◌}
use mathlib.Core.Bool.{Bool, true, false, false≢true}
use mathlib.Core.Option.{none}
use mathlib.Core.List.{List}
use Prim.Native.Nat.{ℕ, ◌+◌, ◌-◌, ◌^◌, ◌≤◌, ◌<◌, max}
use native.Mathlib.Omega.{arith}
use lib.Dec.{leb, ltb}
use borrow.Author.Tests.{lt-ltb, le-leb, leb-false, ltb-false}
use Rattle.amount.specs.Numbers.{val, limit, halves}
use Rattle.amount.specs.Amounts.{amount_if, mantissa_at, common_scale, sum_of, difference_of}
use Rattle.amount.specs.declared.Amount.{Amount}
use Rattle.amount.proofs.Halves.{val_halves}
use Rattle.sheet.specs.Fields.{Field, text, field, subject, unit, balance, amount, to_subject}
use Rattle.registry.proofs.Tests.{refused_never, then_both}
use Rattle.registry.proofs.Readers.{amount_in_whole}
use Rattle.registry.specs.Refusals.{zero_amount, Reading}
use Rattle.registry.specs.Readers.{amount_in, readable, read_amount, text_in}
use Rattle.registry.specs.Tests.{state_absent}
use Rattle.profiles.specs.Balance.{balance_rules}
use Rattle.book.specs.Places.{place_view, closed_view, put_field}
use Rattle.book.specs.Book.{credits, whole_amount, name_bytes, place_record, transfer_record, place_at, transfer_at, reserved_in, stock_of, carried_by, stocks, credits_under_way, total, is_some}
use Rattle.book.specs.Steps.{Open, Act, Begin, credits_in, Doing, Issuing, Taking, Reserving, Releasing, doing, adds, seen, held_at, answer}
use Rattle.book.specs.declared.Book.{Book}
use Rattle.book.specs.declared.error.BookError.TheVariants.{TooMuch, NotReserved}
use Rattle.book.proofs.Tables.{sum_part}
use Rattle.book.proofs.Rows.{adds_is, act_affords, transfer_affords}
use Rattle.book.proofs.Facts.{unmet, accepted_tests, Opens, opens, Acts, acts_so, Begins, begins}
use Rattle.book.proofs.Formed.{Formed, formed}
use Rattle.book.proofs.Views.{place_raw, transfer_raw, open_lt}
use Rattle.book.proofs.Invariant.{view_there, is_none}
use Rattle.book.proofs.Endings.{ending, end, Ended, ended}
use Rattle.std.specs.Prelude.{Ok, Err}

-- ---- amounts

-- the amount that a sheet gives, or zero, is whole
abbrev pub asked : ℕ → List ℕ → Amount
asked name i = read_amount (amount_in name (field i name))

zero_whole : zero_amount ≡ whole_amount (credits zero_amount)
unfolding val halves
zero_whole = refl

amount_whole : (n : ℕ) (f : Field) → read_amount (amount_in n f) ≡ whole_amount (credits (read_amount (amount_in n f)))
amount_whole n f = go (amount_in n f) refl
  where
    go : (r : Reading) → amount_in n f ≡ r → read_amount r ≡ whole_amount (credits (read_amount r))
    go (Err e) q = zero_whole
    go (Ok a) q =
        let w = amount_in_whole n f a q in
        rw (w.2, val_halves w.0)

pub asked_whole : (name : ℕ) (i : List ℕ) → asked name i ≡ whole_amount (credits_in name i)
unfolding credits_in
asked_whole name i = amount_whole name (field i name)

-- at scale 0 the sum and the difference are those of the numbers
mantissa_whole : (a : Amount) → a.scale ≡ 0 → mantissa_at a 0 ≡ credits a
unfolding mantissa_at
mantissa_whole a h = rw h (omega arith)

scale_whole : (a c : Amount) → a.scale ≡ 0 → c.scale ≡ 0 → common_scale a c ≡ 0
scale_whole a c h k = ap (λ (n : ℕ). max n c.scale) h ∙ ap (max 0) k

pub sum_whole : (a c : Amount) → a.scale ≡ 0 → c.scale ≡ 0 → credits a + credits c < limit → sum_of a c ≡ Ok (whole_amount (credits a + credits c))
unfolding sum_of amount_if
sum_whole a c h k l =
    rw (scale_whole a c h k, mantissa_whole a h, mantissa_whole c k, lt-ltb (credits a + credits c) limit l)

pub difference_whole : (a c : Amount) → a.scale ≡ 0 → c.scale ≡ 0 → credits a < limit → credits c ≤ credits a
    → difference_of a c ≡ Ok (whole_amount (credits a - credits c))
unfolding difference_of amount_if
difference_whole a c h k l m =
    rw (
      scale_whole a c h k,
      mantissa_whole a h,
      mantissa_whole c k,
      lt-ltb (credits a) limit l,
      le-leb (credits c) (credits a) m,
      lt-ltb (credits a - credits c) limit (omega arith),
    )

-- ---- what a sound book holds

module _ (b : Book) (f : Formed b) where
  pub stock_part : (p : ℕ) → p < 16 → is_some (place_at b p) ≡ true → held_at b p + credits (place_record b p).reserved ≤ stocks b
  unfolding stocks
  stock_part p low here = rw (place_raw b p here).1 at (sum_part (λ q. stock_of (place_at b q)) 16 p low)

  carried_part : (t : ℕ) → t < 8 → is_some (transfer_at b t) ≡ true → credits (transfer_record b t).amount ≤ credits_under_way b
  unfolding credits_under_way
  carried_part t low moving = rw (transfer_raw b t moving).1 at (sum_part (λ q. carried_by (transfer_at b q)) 8 t low)

-- ---- each step

-- open stores the very amount that the sheet gives
pub open_stores : (b : Book) (p : ℕ) (i : List ℕ) → answer b (Open p i) ≡ Ok tt → amount_in balance (field i balance) ≡ Ok (whole_amount (credits_in balance i))
unfolding seen balance_rules state_absent credits_in
open_stores b p i h =
    let f : Opens (seen b) p i = opens (seen b) p i (accepted_tests b (Open p i) h).1 in
    let closed : place_at b p ≡ none = is_none (place_at b p) (sym (view_there (name_bytes b.unit) (place_at b p)) ∙ f.closed) in
    let check : balance_rules amount_in closed_view (field i) 11 ≡ Ok tt = rw closed at f.check in
    let t = (then_both (text_in subject (field i subject)) _ check).1 in
    let r = (then_both (text_in unit (field i unit)) _ t).1 in
    go (amount_in balance (field i balance)) refl (then_both (readable (amount_in balance (field i balance))) _ r).0
  where
    go : (x : Reading) → amount_in balance (field i balance) ≡ x → readable x ≡ Ok tt
        → amount_in balance (field i balance) ≡ Ok (whole_amount (credits (read_amount (amount_in balance (field i balance)))))
    go (Ok a) e k = rw (← amount_whole balance (field i balance)) (e ∙ ap (λ (y : Reading). Ok (read_amount y)) (sym e))
    go (Err z) e k = refused_never z k

-- an amount that the sheet gives, added to a balance and taken from it
plus_asked : (a : Amount) (i : List ℕ) → a.scale ≡ 0 → credits a + credits_in amount i < limit
    → sum_of a (asked amount i) ≡ Ok (whole_amount (credits a + credits_in amount i))
plus_asked a i h l =
    let n : ℕ = credits_in amount i in
    rw (asked_whole amount i) (rw (val_halves n) at (sum_whole a (whole_amount n) h refl (rw (val_halves n) l)))

less_asked : (a : Amount) (i : List ℕ) → a.scale ≡ 0 → credits a < limit → credits_in amount i ≤ credits a
    → difference_of a (asked amount i) ≡ Ok (whole_amount (credits a - credits_in amount i))
less_asked a i h l m =
    let n : ℕ = credits_in amount i in
    rw (asked_whole amount i) (rw (val_halves n) at (difference_whole a (whole_amount n) h refl l (rw (val_halves n) m)))

module _ (b : Book) (p o : ℕ) (i : List ℕ) (h : answer b (Act p o i) ≡ Ok tt) where
  sound : Formed b
  sound = formed b (accepted_tests b (Act p o i) h).0

  facts : Acts (seen b) p o i
  facts = acts_so (seen b) p o i (accepted_tests b (Act p o i) h).1

  here : is_some (place_at b p) ≡ true
  unfolding seen
  here = sym (view_there (name_bytes b.unit) (place_at b p)) ∙ facts.here

  stock_fits : held_at b p + credits (place_record b p).reserved ≤ total b
  unfolding total
  stock_fits = omega (arith, stock_part b sound p facts.low here)

  -- by 31
  pub released : doing o ≡ Releasing → credits_in amount i ≤ credits (place_record b p).reserved
  unfolding seen
  released e =
      let kept : ℕ = reserved_in (place_at b p) in
      rw (place_raw b p here).1
      at (ltb-false kept (credits_in amount i) (unmet (ltb kept (credits_in amount i)) NotReserved (rw e at facts.after_check_lem)))

  -- by 15
  pub within : adds o ≡ false → credits_in amount i ≤ held_at b p
  unfolding seen credits_in
  within down =
      let w : balance_rules amount_in (place_view (name_bytes (place_record b p).subject) (name_bytes b.unit) (place_record b p).balance) (field i) o ≡ Ok tt =
      rw (place_raw b p here).1 at facts.check in
      let a = act_affords (name_bytes (place_record b p).subject) (name_bytes b.unit) (place_record b p).balance (sound.whole_places p facts.low).balance (field i) o facts.operation w in
      a.within down

  -- 12 and 13, by 25, and 17, whose credits were reserved there: no overflow
  pub act_adds : adds o ≡ true → sum_of (place_record b p).balance (asked amount i) ≡ Ok (whole_amount (held_at b p + credits_in amount i))
  unfolding seen
  act_adds up = plus_asked (place_record b p).balance i (sound.whole_places p facts.low).balance (go (doing o) refl)
    where
      go : (k : Doing) → doing o ≡ k → held_at b p + credits_in amount i < limit
      go Issuing e =
          omega (arith, stock_fits, leb-false limit (total b + credits_in amount i) (unmet (leb limit (total b + credits_in amount i)) TooMuch (rw e at facts.after_check_lem)))
      go Releasing e = omega (arith, stock_fits, sound.fits, released e)
      go Taking e = absurd (false≢true (sym (adds_is o Taking e) ∙ up))
      go Reserving e = absurd (false≢true (sym (adds_is o Reserving e) ∙ up))

  -- 14, 16, 18 and 19: no underflow
  pub act_takes : adds o ≡ false → difference_of (place_record b p).balance (asked amount i) ≡ Ok (whole_amount (held_at b p - credits_in amount i))
  act_takes down =
      less_asked (place_record b p).balance i (sound.whole_places p facts.low).balance (omega (arith, sound.fits, stock_fits)) (within down)

  -- 16 and 17: what is reserved is an amount of 128 bits too, neither 17 nor 18 arises
  pub reserve_adds : doing o ≡ Reserving
      → sum_of (place_record b p).reserved (asked amount i) ≡ Ok (whole_amount (credits (place_record b p).reserved + credits_in amount i))
  reserve_adds e =
      plus_asked (place_record b p).reserved i (sound.whole_places p facts.low).reserved (omega (arith, sound.fits, stock_fits, within (adds_is o Reserving e)))

  pub release_takes : doing o ≡ Releasing
      → difference_of (place_record b p).reserved (asked amount i) ≡ Ok (whole_amount (credits (place_record b p).reserved - credits_in amount i))
  release_takes e =
      less_asked (place_record b p).reserved i (sound.whole_places p facts.low).reserved (omega (arith, sound.fits, stock_fits)) (released e)

-- begin: no underflow
pub begin_takes : (b : Book) (f g t : ℕ) (i : List ℕ) → answer b (Begin f g t i) ≡ Ok tt
    → difference_of (place_record b f).balance (asked amount i) ≡ Ok (whole_amount (held_at b f - credits_in amount i))
unfolding seen credits_in total
begin_takes b f g t i h =
    let w : Formed b = formed b (accepted_tests b (Begin f g t i) h).0 in
    let k : Begins (seen b) f g t i = begins (seen b) f g t i (accepted_tests b (Begin f g t i) h).1 in
    let u : List ℕ = name_bytes b.unit in
    let here_f : is_some (place_at b f) ≡ true = sym (view_there u (place_at b f)) ∙ k.from_here in
    let here_g : is_some (place_at b g) ≡ true = sym (view_there u (place_at b g)) ∙ k.to_here in
    let a = transfer_affords (name_bytes (place_record b f).subject) u (place_record b f).balance (w.whole_places f k.low_from).balance
    (put_field (field i) to_subject (text (name_bytes (place_record b g).subject)))
    (rw ((place_raw b f here_f).1, (place_raw b g here_g).1) at k.check) in
    less_asked (place_record b f).balance i (w.whole_places f k.low_from).balance (omega (arith, w.fits, stock_part b w f k.low_from here_f)) (a.within refl)

-- finish and cancel: where the transfer's credits land there is room for them. `opened` is a 16-bit number
pub end_fits : (b : Book) (t : ℕ) (back : Bool) → b.opened < 2 ^ 16 → Ended b t back
    → (end b t back < 16) × (held_at b (end b t back) + credits (transfer_record b t).amount < limit)
unfolding seen total
end_fits b t back few e =
    let low : end b t back < 16 = open_lt b few (end b t back) (e.here back) in
    (low, omega (arith, e.form.fits, stock_part b e.form (end b t back) low (e.here back), carried_part b e.form t e.facts.low e.facts.moving))

-- so no overflow
pub end_adds : (b : Book) (t : ℕ) (back : Bool) → b.opened < 2 ^ 16 → answer b (ending t back) ≡ Ok tt
    → sum_of (place_record b (end b t back)).balance (transfer_record b t).amount ≡ Ok (whole_amount (held_at b (end b t back) + credits (transfer_record b t).amount))
end_adds b t back few h =
    let e : Ended b t back = ended b t back h in
    let room = end_fits b t back few e in
    sum_whole (place_record b (end b t back)).balance (transfer_record b t).amount (e.form.whole_places (end b t back) room.0).balance
    (e.form.whole_transfers t e.facts.low) room.1
