-- Laws of the readers: a field that is not of the kind that is asked, the marks of a fraction, and what a reading that succeeds was made of.
use mathlib.Core.Path.{◌≡◌, refl, sym, ap, ◌∙◌}
use mathlib.Core.Bool.{Bool, true, false, cond, ◌&&◌, ◌||◌, and-false, false≢true}
use mathlib.Core.List.{List, [], ◌∷◌}
use mathlib.Core.Logic.{◌≢◌}
use Prim.Native.Nat.{ℕ, ◌<◌}
use native.Mathlib.Omega.{arith}
use lib.Dec.{eqb}
use lib.ListN.{length}
use borrow.Author.Tests.{ne_eqb, eqb-true}
use Rattle.amount.specs.Amounts.{read_of}
use Rattle.amount.specs.Numbers.{limit, halves}
use Rattle.amount.specs.Decimal.{is_digit, all_digits, decimal}
use Rattle.amount.specs.declared.Amount.{Amount}
use Rattle.amount.specs.declared.uint128.Uint128.{Uint128}
use Rattle.amount.specs.declared.AmountError.{AmountError}
use Rattle.std.specs.List.{list_any}
use Rattle.amount.proofs.Reading.{read_not_digits, if_is}
use Rattle.sheet.specs.Amounts.{amount_at}
use Rattle.sheet.specs.Fields.{Field, absent, text, figure, other, field_of_kind}
use Rattle.registry.specs.Readers.{marked, is_mark, text_of, bytes_of, given_or, parsed, amount_by, amount_in, amount_of}
use Rattle.registry.specs.Helpers.{read_in, fault_in, mantissa_in}
use Rattle.registry.specs.Refusals.{Reading}
use Rattle.registry.proofs.Tests.{failed_never}
use Rattle.registry.specs.declared.error.ProfileError.TheVariants.{NotWhole, FloatForbidden}
use Rattle.std.specs.Prelude.{Some, None, Result, Ok, Err}

-- what is not a text is an amount or a value that is no string, and a reader that answers both alike answers so
pub not_text : {A : Type 0} (f : Field → A) (x : A) (kind : ℕ) (body : List ℕ) → x ≡ f (figure (amount_at body 0)) → x ≡ f other → kind ≢ 1 → x ≡ f (field_of_kind kind body)
not_text f x kind body w o h = rw (ne_eqb kind 1 h) (go (eqb kind 3))
  where
    go : (b : Bool) → x ≡ f (cond b (figure (amount_at body 0)) other)
    go true = w
    go false = o

pub no_bytes : (kind : ℕ) (body : List ℕ) → kind ≢ 1 → [] ≡ bytes_of (field_of_kind kind body)
unfolding bytes_of
no_bytes kind body = not_text bytes_of [] kind body refl refl

-- a mark of a fraction is no digit, so a text that has one is not readable
mark_no_digit : (b : ℕ) → is_mark b ≡ true → is_digit b ≡ false
mark_no_digit b = go (eqb b 46) (eqb b 101) (eqb b 69) refl refl refl
  where
    go : (x y z : Bool) → eqb b 46 ≡ x → eqb b 101 ≡ y → eqb b 69 ≡ z → (x || y || z) ≡ true → is_digit b ≡ false
    go true y z e f g h = rw (eqb-true b 46 e)
    go false true z e f g h = rw (eqb-true b 101 f)
    go false false true e f g h = rw (eqb-true b 69 g)
    go false false false e f g h = absurd (false≢true h)

marked_no_digits : (t : List ℕ) → marked t ≡ true → all_digits t ≡ false
unfolding marked all_digits
marked_no_digits [] h = absurd (false≢true h)
marked_no_digits (b ∷ t) h = go (is_mark b) refl (marked_no_digits t) h
  where
    go : (x : Bool) → is_mark b ≡ x → (marked t ≡ true → all_digits t ≡ false) → (x || marked t) ≡ true → (is_digit b && all_digits t) ≡ false
    go true e rest h = rw (mark_no_digit b e)
    go false e rest h = rw (rest h) (and-false (is_digit b))

-- what is not readable has its fault, and the faults come in document 01's order
pub amount_in_is : (n : ℕ) (f : Field) → amount_in n f ≡ given_or (fault_in n f) (read_in f)
unfolding amount_by parsed read_in fault_in
amount_in_is n absent = refl
amount_in_is n (text t) = go (marked t) refl
  where
    go : (m : Bool) → marked t ≡ m → cond m (Err (FloatForbidden n)) (given_or (NotWhole n) (read_of t)) ≡ given_or (cond m (FloatForbidden n) (NotWhole n)) (read_of t)
    go true e = rw (← read_not_digits t (marked_no_digits t e))
    go false e = refl
amount_in_is n (figure a) = refl
amount_in_is n other = refl

-- std's word for the code's test
pub any_marked : (t : List ℕ) → list_any is_mark t ≡ marked t
unfolding marked
any_marked [] = refl
any_marked (b ∷ t) = ap (λ (r : Bool). is_mark b || r) (any_marked t)

-- an amount that was read of an input is whole
pub amount_in_whole : (n : ℕ) (f : Field) (a : Amount) → amount_in n f ≡ Ok a → (k : ℕ) × (k < limit) × (a ≡ record { mantissa = halves k; scale = 0 })
unfolding amount_by parsed read_of
amount_in_whole n absent a h = failed_never _ a h
amount_in_whole n (figure b) a h = failed_never _ a h
amount_in_whole n other a h = failed_never _ a h
amount_in_whole n (text t) a h = go (marked t) (read_of t) refl h
  where
    go : (m : Bool) (o : Result Amount AmountError) → read_of t ≡ o → cond m (Err (FloatForbidden n)) (given_or (NotWhole n) o) ≡ Ok a
        → (k : ℕ) × (k < limit) × (a ≡ record { mantissa = halves k; scale = 0 })
    go true o e k = failed_never _ a k
    go false (Ok b) e k =
        let w = if_is AmountError.NotWhole _ (decimal t) 0 a (sym (e ∙ ap Ok cc)) in
        (decimal t, w.1, w.2)
    go false (Err x) e k = failed_never _ a k

-- an input amount by its mantissa, and by why there is none
pub mantissa_given : (n : ℕ) (f : Field) (m : Uint128) → mantissa_in (amount_in n f) ≡ Some m → amount_in n f ≡ Ok (record { mantissa = m; scale = 0 })
mantissa_given n f m h = go (amount_in n f) refl h
  where
    go : (r : Reading) → amount_in n f ≡ r → mantissa_in r ≡ Some m → r ≡ Ok (record { mantissa = m; scale = 0 })
    go (Ok a) e k =
        let w = amount_in_whole n f a e in
        let x : a.mantissa ≡ halves w.0 = ap (λ (z : Amount). z.mantissa) w.2 in
        let y : m ≡ a.mantissa = cc in
        ap Ok (w.2 ∙ ap (λ (z : Uint128). record { mantissa = z; scale = 0 }) (sym (y ∙ x)))
    go (Err e) d k = let z : ◌≡◌ {A = ℕ} 0 1 = cc in absurd (omega arith)

pub mantissa_absent : (n : ℕ) (f : Field) → mantissa_in (amount_in n f) ≡ None → amount_in n f ≡ Err (fault_in n f)
mantissa_absent n f h = go (read_in f) (amount_in_is n f)
  where
    go : (o : Result Amount AmountError) → amount_in n f ≡ given_or (fault_in n f) o → amount_in n f ≡ Err (fault_in n f)
    go (Ok a) e =
        let k : Some a.mantissa ≡ None = sym (ap mantissa_in e) ∙ h in
        let z : ◌≡◌ {A = ℕ} 0 1 = cc in absurd (omega arith)
    go (Err x) e = e

-- a state's amount that was read is the field
pub amount_of_is : (n : ℕ) (f : Field) (a : Amount) → amount_of n f ≡ Ok a → f ≡ figure a
unfolding amount_of
amount_of_is n absent a h = failed_never _ a h
amount_of_is n (text t) a h = failed_never _ a h
amount_of_is n (figure b) a h = ap figure cc
amount_of_is n other a h = failed_never _ a h

-- a state's text that has a byte passes its test
pub text_of_filled : (n : ℕ) (f : Field) → 0 < length (bytes_of f) → text_of n f ≡ Ok tt
unfolding bytes_of text_of
text_of_filled n absent h = absurd (omega arith)
text_of_filled n (text t) h = rw (ne_eqb (length t) 0 (λ e. absurd (omega arith)))
text_of_filled n (figure a) h = absurd (omega arith)
text_of_filled n other h = absurd (omega arith)
