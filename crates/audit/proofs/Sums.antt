-- Sums by halves, sums and tests over indices a turn of a loop at a time, and a book's tables by the code's test of their sets.
use Rattle.std.proofs.Common.{◌≡◌, ℕ, suc, ◌+◌, ◌*◌, ◌/◌, ◌%◌, ◌^◌, ◌<◌, ◌≤◌, Bool, true, false, cond, ◌&&◌, sym, refl, ap, ◌∙◌, le_trans, le-add_right, mul-le-mul_right, div-add-mod', mul-suc, arith, le-ltb, lt-ltb}
use mathlib.Core.Option.{some, none}
use mir.Val.{bool_byte}
use native.Mathlib.Nat.{mul-add-mod_self_right}
use Rattle.std.specs.Prelude.{Some, None}
use Rattle.amount.specs.Helpers.{checked}
use Rattle.amount.specs.Numbers.{val, limit, halves}
use Rattle.amount.specs.declared.uint128.Uint128.{Uint128}
use Rattle.amount.proofs.Halves.{halves_of, whole_of, val_of}
use Rattle.sheet.specs.Walk.{sum, every}
use Rattle.book.specs.Sets.{has, entry}
use Rattle.book.specs.Book.{credits, place_record, transfer_record, place_at, transfer_at, stock_of, carried_by, is_some, transfer_ok}
use Rattle.book.specs.declared.Book.{Book}
use Rattle.audit.specs.Totals.{sum_in, Added}
use Rattle.audit.specs.declared.totals.HalfSums.{HalfSums}

-- ---- a sum by halves

-- upper halves first: omega stops at products of both
upper_added : (a h k a' h' k' c d m : ℕ) → a' ≡ a + d → k' ≡ k + c → h' + d * 2 ^ 64 ≡ h + m
    → a' * 2 ^ 64 + h' + k' ≡ a * 2 ^ 64 + h + k + m + c
upper_added a h k a' h' k' c d m e f g = omega arith

lower_added : (u u' l l' m n c : ℕ) → u' ≡ u + m + c → l' + c * 2 ^ 64 ≡ l + n → u' * 2 ^ 64 + l' ≡ u * 2 ^ 64 + l + (m * 2 ^ 64 + n)
lower_added u u' l l' m n c e f = omega arith

-- d passes the upper half, and c the lower one
pub added : (s r : HalfSums) (n : Uint128) (c d : ℕ) → c ≤ 1 → d ≤ 1 → r.above ≡ s.above + d → r.carries ≡ s.carries + c
    → r.hi + d * 2 ^ 64 ≡ s.hi + n.hi → r.lo + c * 2 ^ 64 ≡ s.lo + n.lo → Added s (val n) r
unfolding val sum_in
added s r n c d small small' e f g h =
    record {
      sum = lower_added _ _ _ _ n.hi _ c (upper_added s.above s.hi s.carries r.above r.hi r.carries c d n.hi e f g) h;
      above = omega arith;
      carries = omega arith;
    }

upper_past : (u l : ℕ) → 2 ^ 64 ≤ u → limit ≤ u * 2 ^ 64 + l
unfolding limit
upper_past u l h = le_trans (mul-le-mul_right (2 ^ 64) h) (le-add_right (u * 2 ^ 64) l)

-- the answer for a sum that 128 bits do not hold, and for one that they hold
pub past : (s : HalfSums) → 2 ^ 64 ≤ s.above * 2 ^ 64 + s.hi + s.carries → None ≡ checked (sum_in s)
unfolding sum_in checked
past s h = rw (le-ltb (sum_in s) limit (upper_past _ s.lo h))

held_is : (s : HalfSums) (x : Uint128) → s.above ≡ 0 → x.hi ≡ s.hi + s.carries → x.lo ≡ s.lo → val x ≡ sum_in s
unfolding val sum_in
held_is s x z e f = rw (z, e, f) (omega arith)

pub held : (s : HalfSums) (x : Uint128) → s.above ≡ 0 → x.hi ≡ s.hi + s.carries → x.lo ≡ s.lo → x.hi < 2 ^ 64 → x.lo < 2 ^ 64
    → Some x ≡ checked (sum_in s)
unfolding checked
held s x z e f g h =
    let is : val x ≡ sum_in s = held_is s x z e f in
    rw (lt-ltb (sum_in s) limit (rw is at (whole_of x g h).fits))
    (ap Some (halves_of x (sum_in s) h is))

-- a carry, as the code has it
pub at_most_one : (b : Bool) → bool_byte b ≤ 1
at_most_one true = omega arith
at_most_one false = omega arith

module _ (r s c : ℕ) {o : Bool} where
  pub past_by : (a : ℕ) → o ≡ true → r + bool_byte o * 18446744073709551616 ≡ s + c + 0 → 2 ^ 64 ≤ a * 2 ^ 64 + s + c
  past_by a e h = let k = rw e at h in omega (arith, k)

  pub held_by : o ≡ false → r + bool_byte o * 18446744073709551616 ≡ s + c + 0 → r ≡ s + c
  held_by e h = let k = rw e at h in omega (arith, k)

-- ---- a turn of a loop

next_index : (i : ℕ) → i + 1 ≡ suc i
next_index i = omega arith

every_next : (f : ℕ → Bool) (i : ℕ) → every f i ≡ true → f i ≡ true → every f (i + 1) ≡ true
unfolding every
every_next f i h k = rw (next_index i, h) k

sum_next : (f : ℕ → ℕ) (i : ℕ) → sum f (i + 1) ≡ sum f i + f i
unfolding sum
sum_next f i = ap (sum f) (next_index i)

-- the first i records of a table of k numbers each, n numbers before them, and m credits: each passes two tests, and the sum counts its part
pub record Seen (f g : ℕ → Bool) (part : ℕ → ℕ) (m n k i : ℕ) (s : HalfSums) : Type 0 where
  pub first : every f i ≡ true
  pub second : every g i ≡ true
  pub counted : sum_in s ≡ m + sum part i
  pub above : s.above ≤ n + k * i
  pub carries : s.carries ≤ n + k * i

pub seen_none : (f g : ℕ → Bool) (part : ℕ → ℕ) (m n k : ℕ) (s : HalfSums) → sum_in s ≡ m → s.above ≤ n → s.carries ≤ n → Seen f g part m n k 0 s
unfolding every sum
seen_none f g part m n k s e a c = record { first = refl; second = refl; counted = omega arith; above = omega arith; carries = omega arith }

-- r is the sum s and n more, and has counted at most k times more
pub record AddedBy (k : ℕ) (s : HalfSums) (n : ℕ) (r : HalfSums) : Type 0 where
  pub sum : sum_in r ≡ sum_in s + n
  pub above : r.above ≤ s.above + k
  pub carries : r.carries ≤ s.carries + k

pub added_none : (k : ℕ) (s : HalfSums) → AddedBy k s 0 s
added_none k s = record { sum = omega arith; above = omega arith; carries = omega arith }

pub added_once : {s r : HalfSums} {n : ℕ} → Added s n r → AddedBy 1 s n r
added_once a = record { sum = a.sum; above = a.above; carries = a.carries }

pub added_twice : {s q r : HalfSums} {m n : ℕ} → Added s m q → Added q n r → AddedBy 2 s (m + n) r
added_twice a c = record { sum = omega (arith, a.sum, c.sum); above = omega (arith, a.above, c.above); carries = omega (arith, a.carries, c.carries) }

-- t is the sum s and the record's part
pub seen_more : {f g : ℕ → Bool} {part : ℕ → ℕ} {m n k i : ℕ} {s : HalfSums} → Seen f g part m n k i s → f i ≡ true → g i ≡ true
    → {x : ℕ} {r t : HalfSums} → part i ≡ x → t ≡ r → AddedBy k s x r → Seen f g part m n k (i + 1) t
seen_more {f} {g} {part} {m} {n} {k} {i} seen p q {x} {r} {t} e same a =
    rw same
    (record {
      first = every_next f i seen.first p;
      second = every_next g i seen.second q;
      counted = omega (arith, a.sum, seen.counted, sum_next part i);
      above = rw (next_index i, mul-suc k i) (omega (arith, a.above, seen.above));
      carries = rw (next_index i, mul-suc k i) (omega (arith, a.carries, seen.carries));
    })

-- ---- a book's tables, by the code's test of the set

module _ (b : Book) (p : ℕ) where
  place_by : place_at b p ≡ cond (has b.opened p) (some (place_record b p)) none
  unfolding place_at entry place_record
  place_by = refl

  transfer_by : transfer_at b p ≡ cond (has b.pending p) (some (transfer_record b p)) none
  unfolding transfer_at entry transfer_record
  transfer_by = refl

  pub place_in : has b.opened p ≡ true → place_at b p ≡ some (place_record b p)
  place_in h = place_by ∙ rw h

  pub place_out : has b.opened p ≡ false → place_at b p ≡ none
  place_out h = place_by ∙ rw h

  pub transfer_in : has b.pending p ≡ true → transfer_at b p ≡ some (transfer_record b p)
  transfer_in h = transfer_by ∙ rw h

  pub transfer_out : has b.pending p ≡ false → transfer_at b p ≡ none
  transfer_out h = transfer_by ∙ rw h

  open_by : is_some (place_at b p) ≡ has b.opened p
  open_by = ap is_some place_by ∙ go (has b.opened p)
    where
      go : (t : Bool) → is_some (cond t (some (place_record b p)) none) ≡ t
      go true = refl
      go false = refl

  pub busy_by : is_some (transfer_at b p) ≡ has b.pending p
  busy_by = ap is_some transfer_by ∙ go (has b.pending p)
    where
      go : (t : Bool) → is_some (cond t (some (transfer_record b p)) none) ≡ t
      go true = refl
      go false = refl

-- both ends of a transfer under way
pub ends_in : (b : Book) (t : ℕ) → has b.pending t ≡ true
    → transfer_ok b (transfer_at b t) ≡ has b.opened (transfer_record b t).from && has b.opened (transfer_record b t).to
ends_in b t h = rw (transfer_in b t h, open_by b (transfer_record b t).from, open_by b (transfer_record b t).to)

-- ---- a sum that wraps

-- r is the sum of the first i parts and m more, as 128 bits wrap it
pub record Wrapped (part : ℕ → ℕ) (m i : ℕ) (r : Uint128) : Type 0 where
  pub sum : r ≡ halves ((m + sum part i) % limit)

wrapped_again : (s n : ℕ) → (s % limit + n) % limit ≡ (s + n) % limit
wrapped_again s n =
    sym (mul-add-mod_self_right (s / limit) limit (s % limit + n)) ∙ ap (λ (k : ℕ). k % limit) (omega (arith, div-add-mod' s limit))

pub wrapped_none : (part : ℕ → ℕ) (m : ℕ) (r : Uint128) → r ≡ halves (m % limit) → Wrapped part m 0 r
unfolding sum
wrapped_none part m r e = record { sum = e ∙ ap (λ (k : ℕ). halves (k % limit)) (omega arith) }

pub wrapped_next : {part : ℕ → ℕ} {m i : ℕ} {r : Uint128} → Wrapped part m i r → (n : ℕ) (t : Uint128) → part i ≡ n → t ≡ halves ((val r + n) % limit)
    → Wrapped part m (i + 1) t
wrapped_next {part} {m} {i} {r} w n t e h =
    let s : ℕ = m + sum part i in
    record {
      sum = h ∙ ap (λ (k : ℕ). halves ((k + n) % limit)) (val_of w.sum) ∙ ap halves (wrapped_again s n)
          ∙ ap (λ (k : ℕ). halves (k % limit)) (omega (arith, e, sum_next part i));
    }

-- a part that does not count
pub wrapped_same : {part : ℕ → ℕ} {m i : ℕ} {r : Uint128} → Wrapped part m i r → (t : Uint128) → part i ≡ 0 → t ≡ r → Wrapped part m (i + 1) t
wrapped_same {part} {m} {i} {r} w t e h = record { sum = h ∙ w.sum ∙ ap (λ (k : ℕ). halves (k % limit)) (omega (arith, e, sum_next part i)) }

-- two numbers, one after the other
pub wrapped_twice : (r q t : Uint128) (m n : ℕ) → q ≡ halves ((val r + m) % limit) → t ≡ halves ((val q + n) % limit) → t ≡ halves ((val r + (m + n)) % limit)
wrapped_twice r q t m n e h =
    h ∙ ap (λ (k : ℕ). halves ((k + n) % limit)) (val_of e) ∙ ap halves (wrapped_again (val r + m) n) ∙ ap (λ (k : ℕ). halves (k % limit)) (omega arith)

-- what a place and a transfer count
module _ (b : Book) (p : ℕ) (t : Bool) where
  pub stock_counts : t ≡ has b.opened p
      → stock_of (place_at b p) ≡ cond t (credits (place_record b p).balance + credits (place_record b p).reserved) 0
  stock_counts e = go (has b.opened p) refl
    where
      go : (u : Bool) → has b.opened p ≡ u
          → stock_of (place_at b p) ≡ cond t (credits (place_record b p).balance + credits (place_record b p).reserved) 0
      go true h = rw (e, h, place_in b p h)
      go false h = rw (e, h, place_out b p h)

  pub carried_counts : t ≡ has b.pending p → carried_by (transfer_at b p) ≡ cond t (credits (transfer_record b p).amount) 0
  carried_counts e = go (has b.pending p) refl
    where
      go : (u : Bool) → has b.pending p ≡ u → carried_by (transfer_at b p) ≡ cond t (credits (transfer_record b p).amount) 0
      go true h = rw (e, h, transfer_in b p h)
      go false h = rw (e, h, transfer_out b p h)
