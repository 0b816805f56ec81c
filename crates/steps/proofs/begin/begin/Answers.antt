use Rattle.steps.proofs.Tested.{Past, past_sound, pass, stop, all_passed, Here, busy_as, both_as, ends_as, both_here}
use Rattle.steps.proofs.Checks.{amounts, asks_for, asks_number, is_whole, amounts_failed, amounts_nothing, amounts_short, amounts_taken, not_positive, is_positive, begin_nameless, begin_check}
use Rattle.steps.proofs.Turned.{held_whole, uncharged, refuses, accepts}
use Rattle.steps.proofs.Stored.{low_ends, stored_begin}
use Rattle.steps.specs.Turn.{Shows, whole_of}
use Rattle.steps.specs.declared.step.Step.TheVariants as Code
use Rattle.steps.specs.declared.step.View.{View}
use Rattle.amount.specs.Numbers.{val}
use Rattle.amount.specs.declared.Amount.{Amount}
use Rattle.amount.proofs.Halves.{val_of, difference_is, difference_none}
use Rattle.sheet.specs.Sheet.{sound_as}
use Rattle.sheet.specs.declared.Shape.TheVariants.{Input}
use Rattle.sheet.specs.Fields.{field, amount, to_subject}
use Rattle.registry.specs.Call.{input_sound}
use Rattle.registry.specs.Readers.{amount_in}
use Rattle.registry.specs.Tests.{above_zero}
use Rattle.registry.specs.Refusals.{Outcome}
use Rattle.registry.specs.declared.error.ProfileError.{ProfileError}
use Rattle.registry.specs.declared.error.ProfileError.TheVariants.{Unborn, Empty, InsufficientQuantity}
use Rattle.registry.proofs.Tests.{exits}
use Rattle.registry.proofs.Readers.{mantissa_given, mantissa_absent}
use Rattle.book.specs.Sets.{has}
use Rattle.book.specs.Book.{is_well_formed, place_record, name_bytes, whole_amount}
use Rattle.book.specs.Steps.{Begin, tests_begin, credits_in, answer, said, seen, check_at, sent_to}
use Rattle.book.specs.declared.Book.{Book}
use Rattle.book.specs.declared.error.BookError.TheVariants.{Profile, OffTheBook, Itself, UnderWay}
use Rattle.std.specs.Prelude.{Ok, Err}
use borrow.Author.Tests.{eq-eqb, ne_eqb}
use native.Mathlib.Nat.{mod-eq_of_lt}
use native.Mathlib.Omega.{arith}
use lib.Dec.{leb}
use lib.ListN.{length}
use Prim.Native.Nat.{ℕ, ◌<◌, ◌≤◌}
use mathlib.Core.Bool.{true, false, ◌&&◌, ◌||◌}
use mathlib.Core.List.{List}
use mathlib.Core.Logic.{◌≢◌}
use mathlib.Core.Path.{◌≡◌, refl, sym, ap, ◌∙◌}
use Rattle.steps.proofs.begin.begin.Goals.{In_ok-require_sound_input}
use Rattle.steps.proofs.begin.begin.Goals as goal

-- ---- the tests passed: 22, 24, 21, 6, 2

-- with these the check is left, at two open places
record Ready (b : Book) (from to transfer : ℕ) (i : List ℕ) (x : View) : Type 0 where
  past : Past b (Begin from to transfer i) 6
  from_here : Here b from
  to_here : Here b to
  named : x.named ≡ length (name_bytes (place_record b to).subject)
  -- what the source holds, as an amount
  held : (place_record b from).balance ≡ whole_of x.held

module _ {b : Book} {from to transfer : ℕ} {x : View} (i : List ℕ) (sound : is_well_formed b ≡ true) (v : Shows b (Code.Begin from to transfer) x) where
  abbrev Left : ℕ → Type 0
  Left n = Past b (Begin from to transfer i) n

  module _ (on : leb 16 from || leb 16 to || leb 8 transfer ≡ false) where
    past_2 : Left 2
    unfolding tests_begin
    past_2 = pass (past_sound b _ sound) (rw on)

    module _ (apart : from ≢ to) where
      past_3 : Left 3
      unfolding tests_begin
      past_3 = pass past_2 (rw (ne_eqb from to apart))

      module _ (idle : (seen b).busy transfer ≡ false) where
        past_4 : Left 4
        unfolding tests_begin
        past_4 = pass past_3 (rw idle)

        module _ (both : has x.opened from && has x.opened to ≡ true) where
          past_5 : Left 5
          unfolding tests_begin
          past_5 = pass past_4 (rw (ends_as b _ _ _ _ v.opened (sym both)))

          ready_by : input_sound (sound_as Input i) ≡ Ok tt → Ready b from to transfer i x
          unfolding tests_begin
          ready_by whole =
              let low = low_ends from to transfer on in
              let here = both_here b _ _ (both_as b _ _ _ _ v.opened (sym both)) in
              record {
                past = pass past_5 (ap said whole);
                from_here = here.0;
                to_here = here.1;
                named = v.named ∙ rw (mod-eq_of_lt low.1);
                held = held_whole v sound _ refl low.0;
              }

ready : {b : Book} (c : In_ok-require_sound_input) → is_well_formed b ≡ true → Shows b (Code.Begin c.args.from c.args.to c.args.transfer) c.args.was
    → Ready b c.args.from c.args.to c.args.transfer c.args.sheet.now c.args.was
ready {b} c sound v =
    ready_by c.args.sheet.now sound v (sym c.off_the_book.ensures ∙ c.if-off_the_book.false) c.if-from-to.false
    (busy_as b _ _ _ (c.from.ensures ∙ v.pending) c.has.ensures ∙ c.if-has.false)
    (sym c.both.ensures ∙ c.if-not-both.false) (sym c.require_sound_input.ensures ∙ c.in_ok-require_sound_input.was)

-- ---- the check

module _ {b : Book} {from to transfer : ℕ} {i : List ℕ} {x : View} (r : Ready b from to transfer i x) where
  nameless : x.named ≡ 0 → Err (Profile (Empty to_subject)) ≡ answer b (Begin from to transfer i)
  unfolding tests_begin
  nameless e = stop r.past _ (begin_nameless b _ _ i r.from_here r.to_here (sym r.named ∙ e))

  module _ (named : x.named ≢ 0) where
    abbrev its_amounts : Outcome
    its_amounts = amounts false (place_record b from).balance (amount_in amount (field i amount))

    checks : check_at (seen b) from (sent_to (seen b) to i) 15 ≡ said its_amounts
    checks = begin_check b _ _ i r.from_here r.to_here (λ e. named (r.named ∙ e))

    fails : (e : ProfileError) → its_amounts ≡ Err e → Err (Profile e) ≡ answer b (Begin from to transfer i)
    unfolding tests_begin
    fails e h = stop r.past _ (checks ∙ ap said h)

    unread : (e : ProfileError) → amount_in amount (field i amount) ≡ Err e → Err (Profile e) ≡ answer b (Begin from to transfer i)
    unread e h = fails e (amounts_failed false (place_record b from).balance _ e h)

    -- what was asked for, which is an amount
    module _ {a : Amount} (given : amount_in amount (field i amount) ≡ Ok a) where
      asks : val a.mantissa ≡ credits_in amount i
      asks = val_of (asks_number amount i _ given)

      nothing : (e : ProfileError) → above_zero a ≡ Err e → Err (Profile e) ≡ answer b (Begin from to transfer i)
      nothing e h = fails e (amounts_nothing false _ _ _ (asks_for amount i _ given) e (rw (is_whole amount i _ given) at h))

      module _ (some : above_zero a ≡ Ok tt) where
        abbrev some_whole : above_zero (whole_amount (credits_in amount i)) ≡ Ok tt
        some_whole = rw (is_whole amount i _ given) at some

        scale : (place_record b from).balance.scale ≡ 0
        scale = ap (λ (z : Amount). z.scale) r.held

        short : val x.held < val a.mantissa → Err (Profile (InsufficientQuantity (whole_of x.held) (whole_of a.mantissa))) ≡ answer b (Begin from to transfer i)
        short k =
            let e : whole_amount (credits_in amount i) ≡ whole_of a.mantissa = ap whole_of (sym (asks_number amount i _ given)) in
            rw (← e, ← r.held) (fails _ (amounts_short false _ _ _ (asks_for amount i _ given) some_whole refl scale (rw (r.held, ← asks) k)))

        taken : val a.mantissa ≤ val x.held → answer b (Begin from to transfer i) ≡ Ok tt
        unfolding tests_begin
        taken k = all_passed (pass r.past (checks ∙ ap said (amounts_taken false _ _ _ (asks_for amount i _ given) some_whole refl scale (rw (r.held, ← asks) k)))) refl

-- ---- the returns

pub returns-then-off_the_book : goal.returns-then-off_the_book
unfolding tests_begin
returns-then-off_the_book c b sound v =
    refuses _ OffTheBook _ refl (stop (past_sound b _ sound) _ (rw (sym c.off_the_book.ensures ∙ c.if-off_the_book.true)))

pub returns-then-from-to : goal.returns-then-from-to
unfolding tests_begin
returns-then-from-to c b sound v =
    refuses _ Itself _ refl (stop (past_2 c.args.sheet.now sound v (sym c.off_the_book.ensures ∙ c.if-off_the_book.false)) _ (rw (eq-eqb _ _ c.if-from-to.true)))

pub returns-then-has : goal.returns-then-has
unfolding tests_begin
returns-then-has c b sound v =
    refuses _ UnderWay _ refl
    (stop (past_3 c.args.sheet.now sound v (sym c.off_the_book.ensures ∙ c.if-off_the_book.false) c.if-from-to.false) _
    (rw (busy_as b _ _ _ (c.from.ensures ∙ v.pending) c.has.ensures ∙ c.if-has.true)))

pub returns-then-not-both : goal.returns-then-not-both
unfolding tests_begin
returns-then-not-both c b sound v =
    refuses _ (Profile Unborn) _ refl
    (stop
    (past_4 c.args.sheet.now sound v (sym c.off_the_book.ensures ∙ c.if-off_the_book.false) c.if-from-to.false (busy_as b _ _ _ (c.from.ensures ∙ v.pending) c.has.ensures ∙ c.if-has.false))
    _ (rw (ends_as b _ _ _ _ v.opened c.both.ensures ∙ c.if-not-both.true)))

pub returns-in_err-require_sound_input : goal.returns-in_err-require_sound_input
unfolding tests_begin
returns-in_err-require_sound_input c b sound v =
    refuses _ _ _ (exits _ _ c.from_residual.ensures.1)
    (stop
    (past_5 c.args.sheet.now sound v (sym c.off_the_book.ensures ∙ c.if-off_the_book.false) c.if-from-to.false (busy_as b _ _ _ (c.from.ensures ∙ v.pending) c.has.ensures ∙ c.if-has.false)
    (sym c.both.ensures ∙ c.if-not-both.false))
    _ (ap said (sym c.require_sound_input.ensures ∙ c.in_err-require_sound_input.was)))

pub returns-then-was-eq0 : goal.returns-then-was-eq0
returns-then-was-eq0 c b sound v =
    refuses _ (Profile (Empty to_subject)) _ refl (nameless (ready (goal.at.returns-then-was-eq0 c).In_ok-require_sound_input sound v) c.if-was-eq0.true)

pub returns-in_default : goal.returns-in_default
returns-in_default c b sound v =
    refuses _ _ _ (ap (λ (e : ProfileError). Err (Profile e)) c.amount_refusal.ensures)
    (unread (ready (goal.at.returns-in_default c).In_ok-require_sound_input sound v) c.if-was-eq0.false _
    (mantissa_absent _ _ (sym c.input_mantissa.ensures ∙ c.in_default.is)))

pub returns-then-is_zero : goal.returns-then-is_zero
returns-then-is_zero c b sound v =
    refuses _ _ _ refl
    (nothing (ready (goal.at.returns-then-is_zero c).In_ok-require_sound_input sound v) c.if-was-eq0.false
    (mantissa_given _ _ _ (sym c.input_mantissa.ensures ∙ c.in-Some.is)) _ (not_positive _ _ c.is_zero.ensures c.if-is_zero.true))

pub returns-in_default-checked_sub : goal.returns-in_default-checked_sub
returns-in_default-checked_sub c b sound v =
    refuses _ _ _ (ap Err c.short.ensures)
    (short (ready (goal.at.returns-in_default-checked_sub c).In_ok-require_sound_input sound v) c.if-was-eq0.false
    (mantissa_given _ _ _ (sym c.input_mantissa.ensures ∙ c.in-Some.is)) (is_positive _ _ c.is_zero.ensures c.if-is_zero.false)
    (difference_none _ _ (sym c.in_default-checked_sub.is ∙ c.checked_sub.ensures)))

pub returns : goal.returns
returns c b sound v =
    let r = ready (goal.at.returns c).In_ok-require_sound_input sound v in
    let given = mantissa_given _ _ _ (sym c.input_mantissa.ensures ∙ c.in-Some.is) in
    let rest = difference_is _ _ _ (sym c.in-Some-checked_sub.is ∙ c.checked_sub.ensures) in
    let yes· = taken r c.if-was-eq0.false given (is_positive _ _ c.is_zero.ensures c.if-is_zero.false) rest.0 in
    accepts _ _ yes·
    (stored_begin b _ _ _ c.args.sheet.now yes· _ _ _ _ v (rest.1 ∙ rw (r.held, asks r c.if-was-eq0.false given)) (asks_number amount c.args.sheet.now _ given) c.with8.ensures)
    (λ m h. uncharged v sound (omega (arith, h)))
