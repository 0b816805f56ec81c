-- Laws of decimal text, and of what reading one answers.
use Rattle.std.proofs.Common.{◌≡◌, ℕ, suc, ◌+◌, ◌-◌, ◌*◌, ◌^◌, ◌<◌, ◌≤◌, Bool, true, false, cond, Some, None, Ok, Err, ◌&&◌, ltb, leb, List, [], ◌∷◌, ◌++◌, length, get_or, drop, sym, refl, ◌∙◌, le_trans, le_refl, lt_of_lt_of_le, mul-le-mul_right, mul_assoc, add-mul, add-one, arith, drop-cons, ltb-true, le-ltb, lt-ltb, le-leb, leb-true}
use mathlib.Core.Bool.{and-false}
use native.Mathlib.Nat.{pow-le-pow_right, pow-succ'}
use borrow.Author.Tests.{lt-leb}
use Rattle.amount.specs.Numbers.{val, limit, halves}
use Rattle.amount.specs.Helpers.{checked, word_of}
use Rattle.amount.specs.declared.uint128.Uint128.{Uint128}
use Rattle.amount.specs.Decimal.{is_digit, all_digits, digits_after, decimal}
use Rattle.amount.specs.Amounts.{amount_if, read_of}
use Rattle.amount.specs.declared.Amount.{Amount}
use Rattle.amount.specs.declared.AmountError.{AmountError}
use Rattle.amount.specs.declared.AmountError.TheVariants.{NotWhole}
use Rattle.std.proofs.Math.Bool.{and_assoc}
use Rattle.std.proofs.lemmas.Bool.{and_parts}
use Rattle.std.proofs.lemmas.List.{drop_all}
use Rattle.std.proofs.lemmas.Option.{cond_some}
use Rattle.amount.proofs.Halves.{Whole, whole_of, whole_halves, val_of, val_zero, checked_is, checked_none, cond_none}
use Rattle.amount.proofs.Scaling.{ten_more}

pub if_false : (o : AmountError) (m scale : ℕ) → Err o ≡ amount_if o false m scale
unfolding amount_if
if_false o m scale = refl

pub if_large : (o : AmountError) (t : Bool) (m scale : ℕ) → limit ≤ m → Err o ≡ amount_if o t m scale
unfolding amount_if
if_large o t m scale h = simp (le-ltb m limit h, and-false)

pub if_given : (o : AmountError) (x : Uint128) (m scale : ℕ) → m < limit → x ≡ halves m → Ok (record { mantissa = x; scale = scale }) ≡ amount_if o true m scale
unfolding amount_if
if_given o x m scale h e = simp (lt-ltb m limit h) (rw e)

-- what a given amount tells
if_case : (o : AmountError) (t u : Bool) (m scale : ℕ) (a : Amount) → ltb m limit ≡ u → Ok a ≡ cond (t && u) (Ok (record { mantissa = halves m; scale = scale })) (Err o) → (t ≡ true) × (m < limit) × (a ≡ record { mantissa = halves m; scale = scale })
if_case o true true m scale a e h = (refl, ltb-true m limit e, cc)
if_case o true false m scale a e h = cc
if_case o false u m scale a e h = cc

pub if_is : (o : AmountError) (t : Bool) (m scale : ℕ) (a : Amount) → Ok a ≡ amount_if o t m scale → (t ≡ true) × (m < limit) × (a ≡ record { mantissa = halves m; scale = scale })
unfolding amount_if
if_is o t m scale a h = if_case o t (ltb m limit) m scale a refl h

module _ (s : List ℕ) where
  pub read_empty : length s ≡ 0 → Err NotWhole ≡ read_of s
  unfolding read_of
  read_empty h = simp (lt-leb 1 (length s) (omega arith)) (if_false _ _ _)

  pub read_long : 39 < length s → Err NotWhole ≡ read_of s
  unfolding read_of
  read_long h = simp (lt-leb (length s) 39 h, and-false) (if_false _ _ _)

  pub read_not_digits : all_digits s ≡ false → Err NotWhole ≡ read_of s
  unfolding read_of
  read_not_digits h = simp (h, and-false) (if_false _ _ _)

  pub read_large : limit ≤ decimal s → Err NotWhole ≡ read_of s
  unfolding read_of
  read_large h = if_large _ _ _ _ h

  pub read_given : (x : Uint128) → 0 < length s → length s ≤ 39 → all_digits s ≡ true → decimal s < limit → x ≡ halves (decimal s) → Ok (record { mantissa = x; scale = 0 }) ≡ read_of s
  unfolding read_of
  read_given x p q d f e = simp (le-leb 1 (length s) (omega arith), le-leb (length s) 39 q, d) (if_given _ x (decimal s) 0 f e)

pub digit_byte : (b : ℕ) (t : Bool) → 48 ≤ b → b ≤ 57 → (is_digit b && t) ≡ t
digit_byte b t h k = simp (le-leb 48 b h, le-leb b 57 k)

-- further digits make a number no smaller
pub digits_grow : (n : ℕ) (s : List ℕ) → n ≤ digits_after n s
unfolding digits_after
digits_grow n [] = le_refl n
digits_grow n (b ∷ s) = le_trans (omega arith) (digits_grow (n * 10 + (b - 48)) s)

-- a text in two parts
digits_both : (s t : List ℕ) → all_digits (s ++ t) ≡ (all_digits s && all_digits t)
unfolding all_digits
digits_both [] t = refl
digits_both (b ∷ s) t = rw (digits_both s t) (sym (and_assoc (is_digit b) (all_digits s) (all_digits t)))

pub number_append : (n : ℕ) (s t : List ℕ) → digits_after n (s ++ t) ≡ digits_after (digits_after n s) t
unfolding digits_after
number_append n [] t = refl
number_append n (b ∷ s) t = number_append (n * 10 + (b - 48)) s t

-- further digits move a number up by as many places
number_shift : (n : ℕ) (s : List ℕ) → digits_after n s ≡ n * 10 ^ length s + digits_after 0 s
unfolding digits_after
number_shift n [] = omega arith
number_shift n (b ∷ s) =
    let d : ℕ = b - 48 in
    let p : ℕ = 10 ^ length s in
    let x : (n * 10 + d) * p ≡ n * 10 * p + d * p = add-mul (n * 10) d p in
    let y : n * 10 * p ≡ n * 10 ^ suc (length s) = rw (pow-succ' 10 (length s)) (mul_assoc n 10 p) in
    omega (arith, x, y, number_shift (n * 10 + d) s, number_shift (0 * 10 + d) s)

-- so many digits make no larger number
number_below : (n : ℕ) (s : List ℕ) → all_digits s ≡ true → digits_after n s < (n + 1) * 10 ^ length s
unfolding digits_after all_digits
number_below n [] h = omega arith
number_below n (b ∷ s) h =
    let d : ℕ = b - 48 in
    let p : ℕ = 10 ^ length s in
    let u : b ≤ 57 = leb-true b 57 (and_parts (leb 48 b) (leb b 57) (and_parts (is_digit b) (all_digits s) h).0).1 in
    let i : digits_after (n * 10 + d) s < (n * 10 + d + 1) * p = number_below (n * 10 + d) s (and_parts (is_digit b) (all_digits s) h).1 in
    let k : (n * 10 + d + 1) * p ≤ (n + 1) * 10 * p = mul-le-mul_right p (omega arith) in
    rw (pow-succ' 10 (length s), ← mul_assoc (n + 1) 10 p) (lt_of_lt_of_le i k)

-- those left decide whether all are digits, and carry the number n on
pub record Reading (text : List ℕ) (n : ℕ) (left : List ℕ) : Type 0 where
  pub digits : all_digits text ≡ all_digits left
  pub number : decimal text ≡ digits_after n left

pub start : (text : List ℕ) → Reading text 0 text
unfolding decimal
start text = record { digits = refl; number = refl }

pub all_read : {text : List ℕ} {n : ℕ} → Reading text n [] → (all_digits text ≡ true) × (decimal text ≡ n)
unfolding all_digits digits_after
all_read r = (r.digits, r.number)

-- one byte more
module _ {text : List ℕ} {n b : ℕ} {left : List ℕ} (r : Reading text n (b ∷ left)) where
  pub not_byte : is_digit b ≡ false → all_digits text ≡ false
  unfolding all_digits
  not_byte h = r.digits ∙ rw h

  pub byte_more : is_digit b ≡ true → Reading text (n * 10 + (b - 48)) left
  unfolding all_digits digits_after
  byte_more h = record { digits = r.digits ∙ rw h; number = r.number }

-- a part more
module _ {text : List ℕ} {n : ℕ} {left : List ℕ} (r : Reading text n left) (part rest : List ℕ) (e : left ≡ part ++ rest) where
  pub not_part : all_digits part ≡ false → all_digits text ≡ false
  not_part b = r.digits ∙ rw (e, digits_both part rest, b)

  pub part_more : all_digits part ≡ true → Reading text (n * 10 ^ length part + decimal part) rest
  unfolding decimal
  part_more b =
      record {
        digits = r.digits ∙ rw (e, digits_both part rest, b);
        number = r.number ∙ rw (e, number_append n part rest, number_shift n part);
      }

-- a word of digits, of which i are read: so many digits make no larger number
pub record WordRead (text : List ℕ) (n i : ℕ) : Type 0 where
  pub read : Reading text n (drop i text)
  pub small : n < 10 ^ i

pub word_start : (text : List ℕ) → WordRead text 0 0
word_start text = record { read = start text; small = omega arith }

module _ {text : List ℕ} {n i : ℕ} (w : WordRead text n i) where
  pub word_room : i < 19 → n < 10 ^ 18
  word_room h =
      let k : i ≤ 18 = omega arith in
      lt_of_lt_of_le w.small (pow-le-pow_right {n = 10} (omega arith) k)

  pub word_end : length text ≤ i → Some n ≡ word_of text
  unfolding word_of
  word_end h =
      let e : drop i text ≡ [] = drop_all i text h in
      let a = all_read (rw e at w.read) in
      rw (a.0, a.1)

  module _ (h : i < length text) where
    byte_next : Reading text n (get_or text i 0 ∷ drop (i + 1) text)
    byte_next = rw (drop-cons text i 0 h, ← add-one i) at w.read

    pub word_not : is_digit (get_or text i 0) ≡ false → None ≡ word_of text
    unfolding word_of
    word_not d = rw (not_byte byte_next d)

    pub word_more : is_digit (get_or text i 0) ≡ true → WordRead text (n * 10 + (get_or text i 0 - 48)) (i + 1)
    word_more d =
        let b : ℕ = get_or text i 0 in
        let u : b ≤ 57 = leb-true b 57 (and_parts (leb 48 b) (leb b 57) d).1 in
        record { read = byte_more byte_next d; small = omega (arith, w.small, ten_more i) }

-- what a word tells
pub word_is : (s : List ℕ) (x : ℕ) → Some x ≡ word_of s → (all_digits s ≡ true) × (x ≡ decimal s)
unfolding word_of
word_is s x h = let k = cond_some (all_digits s) (decimal s) x (sym h) in (k.0, sym k.1)

pub word_none : (s : List ℕ) → None ≡ word_of s → all_digits s ≡ false
unfolding word_of
word_none s h = cond_none (all_digits s) (decimal s) h

-- the same with the number in two halves
pub record Numbered (text : List ℕ) (m : Uint128) (left : List ℕ) : Type 0 where
  pub read : Reading text (val m) left
  pub whole : Whole m

-- the first word
module _ (text first rest : List ℕ) (h : text ≡ first ++ rest) where
  pub first_none : None ≡ word_of first → Err NotWhole ≡ read_of text
  first_none e = read_not_digits text (not_part (start text) first rest h (word_none first e))

  pub first_some : (x : ℕ) → x < 2 ^ 64 → Some x ≡ word_of first → Numbered text (record { hi = 0; lo = x }) rest
  first_some x f e =
      let w = word_is first x e in
      let v : 0 * 10 ^ length first + decimal first ≡ val (record { hi = 0; lo = x }) = omega (arith, w.1, val_zero (record { hi = 0; lo = x }) refl) in
      record {
        read = rw v at (part_more (start text) first rest h w.0);
        whole = whole_of _ (omega arith) f;
      }

module _ {text : List ℕ} {m : Uint128} {left : List ℕ} (r : Numbered text m left) where
  -- the next word
  module _ (part rest : List ℕ) (h : left ≡ part ++ rest) where
    pub next_none : None ≡ word_of part → Err NotWhole ≡ read_of text
    next_none e = read_not_digits text (not_part r.read part rest h (word_none part e))

    module _ (x : ℕ) (e : Some x ≡ word_of part) where
      after : Reading text (val m * 10 ^ length part + x) rest
      after = rw (word_is part x e).1 (part_more r.read part rest h (word_is part x e).0)

      pub next_large : None ≡ checked (val m * 10 ^ length part + x) → Err NotWhole ≡ read_of text
      next_large f = read_large text (rw after.number (le_trans (checked_none _ f) (digits_grow _ _)))

      pub next_some : (next : Uint128) → Some next ≡ checked (val m * 10 ^ length part + x) → Numbered text next rest
      next_some next f =
          let k = checked_is _ next f in
          record { read = rw (val_of k.1) after; whole = whole_halves k.0 k.1 }

pub word_small : (part : List ℕ) (x : ℕ) → Some x ≡ word_of part → x < 10 ^ length part
unfolding decimal
word_small part x e =
    let w = word_is part x e in
    rw w.1 (omega (arith, number_below 0 part w.0))

pub finish : {text : List ℕ} {m : Uint128} (left : List ℕ) → length left ≡ 0 → Numbered text m left → 0 < length text → length text ≤ 39 → Ok (record { mantissa = m; scale = 0 }) ≡ read_of text
finish {text} {m} [] h r p q =
    let a = all_read r.read in
    read_given text m p q a.0 (rw a.1 r.whole.fits) (rw a.1 r.whole.whole)
finish (b ∷ left) h r p q = absurd (omega arith)
