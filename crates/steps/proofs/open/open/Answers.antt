use Rattle.steps.proofs.Tested.{Past, past_sound, pass, stop, all_passed, open_as, there_as, room_so, no_room, unit_as, subject_as}
use Rattle.steps.proofs.Checks.{asks_number, open_subjectless, open_unitless, open_amount}
use Rattle.steps.proofs.Turned.{counted, refuses, accepts}
use Rattle.steps.proofs.Stored.{stored_open}
use Rattle.steps.specs.Turn.{Shows}
use Rattle.steps.specs.declared.step.Step.TheVariants as Code
use Rattle.steps.specs.declared.step.View.{View}
use Rattle.amount.specs.Numbers.{limit, halves}
use Rattle.amount.specs.declared.Amount.{Amount}
use Rattle.amount.proofs.Halves.{val_of, checked_is, checked_none}
use Rattle.sheet.specs.Sheet.{sound_as}
use Rattle.sheet.specs.declared.Shape.TheVariants.{Input}
use Rattle.sheet.specs.Fields.{field, subject, unit, balance}
use Rattle.registry.specs.Call.{input_sound}
use Rattle.registry.specs.Readers.{text_in, amount_in, readable, bytes_of}
use Rattle.registry.specs.Refusals.{Reading}
use Rattle.registry.specs.declared.error.ProfileError.{ProfileError}
use Rattle.registry.specs.declared.error.ProfileError.TheVariants.{Born}
use Rattle.registry.proofs.Tests.{exits}
use Rattle.registry.proofs.Readers.{mantissa_given, mantissa_absent}
use Rattle.book.specs.Sets.{has}
use Rattle.book.specs.Book.{is_well_formed, name_bytes, total}
use Rattle.book.specs.Steps.{Open, tests_open, credits_in, answer, said, seen, check_at, same_bytes}
use Rattle.book.specs.declared.Book.{Book}
use Rattle.book.specs.declared.error.BookError.TheVariants.{Profile, OffTheBook, OtherUnit, LongName, TooMuch}
use Rattle.std.specs.Prelude.{Some, Ok, Err}
use borrow.Author.Tests.{le-leb, lt-leb, lt-ltb, le-ltb}
use native.Mathlib.Omega.{arith}
use lib.ListN.{length}
use Prim.Native.Nat.{ℕ, ◌+◌, ◌<◌, ◌≤◌}
use mathlib.Core.Bool.{true, false}
use mathlib.Core.List.{List}
use mathlib.Core.Path.{◌≡◌, refl, sym, ap, ◌∙◌}
use Rattle.steps.proofs.open.open.Goals as goal

-- ---- the tests passed, in their order: 22, 5, 2, the check, 26, 27
module _ {b : Book} {place : ℕ} {was : View} (v : Shows b (Code.Open place) was) (i : List ℕ) where
  abbrev Left : ℕ → Type 0
  Left n = Past b (Open place i) n

  module _ (sound : is_well_formed b ≡ true) (low : place < 16) where
    past-2 : Left 2
    unfolding tests_open
    past-2 = pass (past_sound b _ sound) (rw (lt-leb 16 place low))

    module _ (shut : false ≡ has was.opened place) where
      closed : has b.opened place ≡ false
      closed = open_as b _ _ _ v.opened shut

      past-3 : Left 3
      unfolding tests_open
      past-3 = pass past-2 (rw (there_as b _ _ _ v.opened shut))

      module _ (whole : input_sound (sound_as Input i) ≡ Ok tt) where
        past-4 : Left 4
        unfolding tests_open
        past-4 = pass past-3 (ap said whole)

        -- the texts are there
        module _ (s : text_in subject (field i subject) ≡ Ok tt) (t : text_in unit (field i unit) ≡ Ok tt) where
          checks : check_at (seen b) place (field i) 11 ≡ said (readable (amount_in balance (field i balance)))
          checks = open_amount b _ _ closed s t

          module _ {a : Amount} (k : amount_in balance (field i balance) ≡ Ok a) where
            past-5 : Left 5
            unfolding tests_open
            past-5 = pass past-4 (checks ∙ ap (λ (r : Reading). said (readable r)) k)

            module _ (named : true ≡ same_bytes (name_bytes b.unit) (bytes_of (field i unit))) where
              past-6 : Left 6
              unfolding tests_open
              past-6 = pass past-5 (rw (unit_as b i _ _ _ refl refl named))

              past-7 : length (bytes_of (field i subject)) ≤ 32 → Left 7
              unfolding tests_open
              past-7 short = pass past-6 (rw (subject_as b i _ refl, le-ltb 32 _ short))

-- ---- the returns
pub returns-then-place-ge-PLACES : goal.returns-then-place-ge-PLACES
unfolding tests_open
returns-then-place-ge-PLACES c b v n u =
    refuses _ OffTheBook _ refl (stop (past_sound b _ (counted v n).0) _ (rw (le-leb 16 c.args.place c.if-place-ge-PLACES.true)))

pub returns-then-has : goal.returns-then-has
unfolding tests_open
returns-then-has c b v n u =
    refuses _ (Profile Born) _ refl
    (stop (past-2 v c.args.sheet.now (counted v n).0 (omega arith)) _ (rw (there_as b _ _ _ v.opened c.has.ensures ∙ c.if-has.true)))

pub returns-in_err-require_sound_input : goal.returns-in_err-require_sound_input
unfolding tests_open
returns-in_err-require_sound_input c b v n u =
    refuses _ _ _ (exits _ _ c.from_residual.ensures.1)
    (stop (past-3 v c.args.sheet.now (counted v n).0 (omega arith) (cc)) _ (ap said (sym c.require_sound_input.ensures ∙ c.in_err-require_sound_input.was)))

pub returns-in_err-input_str : goal.returns-in_err-input_str
unfolding tests_open
returns-in_err-input_str c b v n u =
    let i = c.args.sheet.now in
    refuses i _ _ (exits _ _ c.from_residual-in_err-input_str.ensures.1)
    (stop (past-4 v i (counted v n).0 (omega arith) (cc) (sym c.require_sound_input.ensures ∙ c.in_ok-require_sound_input.was)) _
    (open_subjectless b _ _ (closed v i (counted v n).0 (omega arith) (cc)) _ (sym c.input_str.ensures ∙ c.in_err-input_str.was)))

pub returns-in_err-input_str-2 : goal.returns-in_err-input_str-2
unfolding tests_open
returns-in_err-input_str-2 c b v n u =
    let i = c.args.sheet.now in
    refuses i _ _ (exits _ _ c.from_residual-in_err-input_str-2.ensures.1)
    (stop (past-4 v i (counted v n).0 (omega arith) (cc) (sym c.require_sound_input.ensures ∙ c.in_ok-require_sound_input.was)) _
    (open_unitless b _ _ (closed v i (counted v n).0 (omega arith) (cc)) (sym c.input_str.ensures ∙ c.in_ok-input_str.was) _ (sym c.input_str-2.ensures ∙ c.in_err-input_str-2.was)))

pub returns-in_default : goal.returns-in_default
unfolding tests_open
returns-in_default c b v n u =
    let i = c.args.sheet.now in
    let whole = sym c.require_sound_input.ensures ∙ c.in_ok-require_sound_input.was in
    refuses i _ _ (ap (λ (e : ProfileError). Err (Profile e)) c.amount_refusal.ensures)
    (stop (past-4 v i (counted v n).0 (omega arith) (cc) whole) _
    (checks v i (counted v n).0 (omega arith) (cc) whole (sym c.input_str.ensures ∙ c.in_ok-input_str.was) (sym c.input_str-2.ensures ∙ c.in_ok-input_str-2.was)
    ∙ ap (λ (r : Reading). said (readable r)) (mantissa_absent _ _ (sym c.input_mantissa.ensures ∙ c.in_default.is))))

pub returns-then-not-is_named : goal.returns-then-not-is_named
unfolding tests_open
returns-then-not-is_named c b v n u =
    let i = c.args.sheet.now in
    refuses i OtherUnit _ refl
    (stop (past-5 v i (counted v n).0 (omega arith) (cc) (sym c.require_sound_input.ensures ∙ c.in_ok-require_sound_input.was) (sym c.input_str.ensures ∙ c.in_ok-input_str.was) (sym c.input_str-2.ensures ∙ c.in_ok-input_str-2.was) (mantissa_given _ _ _ (sym c.input_mantissa.ensures ∙ c.in-Some.is))) _
    (rw (unit_as b _ _ _ _ u c.text.ensures c.is_named.ensures ∙ c.if-not-is_named.true)))

pub returns-then-text-gt-NAME_BYTES : goal.returns-then-text-gt-NAME_BYTES
unfolding tests_open
returns-then-text-gt-NAME_BYTES c b v n u =
    let i = c.args.sheet.now in
    refuses i (LongName subject) _ refl
    (stop (past-6 v i (counted v n).0 (omega arith) (cc) (sym c.require_sound_input.ensures ∙ c.in_ok-require_sound_input.was) (sym c.input_str.ensures ∙ c.in_ok-input_str.was) (sym c.input_str-2.ensures ∙ c.in_ok-input_str-2.was) (mantissa_given _ _ _ (sym c.input_mantissa.ensures ∙ c.in-Some.is)) (cc)) _
    (rw (subject_as b i _ c.text-2.ensures, lt-ltb 32 _ c.if-text-gt-NAME_BYTES.true)))

pub returns-in_default-checked_add : goal.returns-in_default-checked_add
unfolding tests_open
returns-in_default-checked_add c b v n u =
    let i = c.args.sheet.now in
    let given = mantissa_given _ _ _ (sym c.input_mantissa.ensures ∙ c.in-Some.is) in
    let short : length (bytes_of (field i subject)) ≤ 32 = rw c.text-2.ensures at c.if-text-gt-NAME_BYTES.false in
    let over = checked_none _ (sym c.in_default-checked_add.is ∙ c.checked_add.ensures) in
    let past : limit ≤ total b + credits_in balance i = rw (val_of (counted v n).1, val_of (asks_number balance i _ given)) at over in
    refuses i TooMuch _ refl
    (stop (past-7 v i (counted v n).0 (omega arith) (cc) (sym c.require_sound_input.ensures ∙ c.in_ok-require_sound_input.was) (sym c.input_str.ensures ∙ c.in_ok-input_str.was) (sym c.input_str-2.ensures ∙ c.in_ok-input_str-2.was) given (cc) short) _
    (no_room b _ past))

pub returns : goal.returns
unfolding tests_open
returns c b v n u =
    let i = c.args.sheet.now in
    let given = mantissa_given _ _ _ (sym c.input_mantissa.ensures ∙ c.in-Some.is) in
    let short : length (bytes_of (field i subject)) ≤ 32 = rw c.text-2.ensures at c.if-text-gt-NAME_BYTES.false in
    let sum = checked_is _ _ (sym c.in-Some-checked_add.is ∙ c.checked_add.ensures) in
    let all = val_of (counted v n).1 in
    let asks = asks_number balance i _ given in
    let room : total b + credits_in balance i < limit = rw (all, val_of asks) at sum.0 in
    let yes· : answer b (Open c.args.place i) ≡ Ok tt =
    all_passed
    (pass (past-7 v i (counted v n).0 (omega arith) (cc) (sym c.require_sound_input.ensures ∙ c.in_ok-require_sound_input.was) (sym c.input_str.ensures ∙ c.in_ok-input_str.was) (sym c.input_str-2.ensures ∙ c.in_ok-input_str-2.was) given (cc) short)
    (room_so b _ room)) refl in
    accepts i _ yes·
    (stored_open b _ i yes· _ _ _ _ v asks c.with16.ensures)
    (λ m h. ap Some (sum.1 ∙ ap halves (rw (all, val_of asks) (omega (arith, h)))))
