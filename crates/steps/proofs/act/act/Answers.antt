use Rattle.steps.proofs.Tested.{Past, past_sound, pass, stop, all_passed, Here, open_as, there_as, reserved_is, room_so, no_room}
use Rattle.steps.proofs.Checks.{amounts, asks_for, asks_number, is_whole, amounts_failed, amounts_nothing, amounts_added, amounts_short, amounts_taken, not_positive, is_positive, doing_found, doing_unfound, does_so, act_unauthorized, act_amounts}
use Rattle.steps.proofs.Turned.{held_whole, reserved_whole, counted, uncharged, refuses, accepts}
use Rattle.steps.proofs.Stored.{stock_within, stored_act}
use Rattle.steps.specs.Turn.{Shows, whole_of, in_code, authorizing}
use Rattle.steps.specs.declared.act.Doing.{Doing as CodeDoing}
use Rattle.steps.specs.declared.step.Step.TheVariants as Code
use Rattle.steps.specs.declared.step.View.{View}
use Rattle.amount.specs.Numbers.{val, limit, halves}
use Rattle.amount.specs.declared.Amount.{Amount}
use Rattle.amount.proofs.Halves.{val_of, checked_is, checked_none, difference_is, difference_none, wrapped_sum, wrapped_difference}
use Rattle.sheet.specs.Sheet.{sound_as}
use Rattle.sheet.specs.declared.Shape.TheVariants.{Input}
use Rattle.sheet.specs.Fields.{field, amount}
use Rattle.registry.specs.Call.{input_sound}
use Rattle.registry.specs.Readers.{amount_in}
use Rattle.registry.specs.Tests.{above_zero}
use Rattle.registry.specs.Refusals.{Outcome}
use Rattle.registry.specs.declared.error.ProfileError.{ProfileError}
use Rattle.registry.specs.declared.error.ProfileError.TheVariants.{UnknownOperation, Unborn, InsufficientQuantity}
use Rattle.registry.proofs.Tests.{exits}
use Rattle.registry.proofs.Readers.{mantissa_given, mantissa_absent}
use Rattle.book.specs.Book.{is_well_formed, place_record, total, whole_amount}
use Rattle.book.specs.Steps.{Act, tests_act, adds, acts, Doing, Issuing, Taking, Reserving, Releasing, doing, after_check, credits_in, answer, said, seen, check_at, issues, takes, inflow, outflow, act_flow}
use Rattle.book.specs.declared.Book.{Book}
use Rattle.book.specs.declared.error.BookError.TheVariants.{Profile, OffTheBook, TooMuch, NotReserved}
use Rattle.book.specs.declared.error.BookError.{BookError}
use Rattle.book.proofs.Rows.{rises, adds_is}
use Rattle.book.proofs.Formed.{formed}
use Rattle.std.specs.Prelude.{Some, Ok, Err}
use borrow.Author.Tests.{le-leb, lt-leb, lt-ltb, le-ltb}
use native.Mathlib.Nat.{mod-eq_of_lt}
use native.Mathlib.Omega.{arith}
use Prim.Native.Nat.{ℕ, ◌+◌, ◌<◌, ◌≤◌}
use mathlib.Core.Bool.{true, false}
use mathlib.Core.List.{List}
use mathlib.Core.Path.{◌≡◌, refl, sym, ap, ◌∙◌}
use Rattle.steps.proofs.act.act.Goals.{In-Some, In-Some-input_mantissa, Else-is_zero}
use Rattle.steps.proofs.act.act.Goals as goal

-- ---- the tests that are passed before the check: 22, 6, 2, 4

module _ (b : Book) (sound : is_well_formed b ≡ true) (p o : ℕ) (i : List ℕ) where
  past_2 : p < 16 → Past b (Act p o i) 2
  unfolding tests_act
  past_2 low = pass (past_sound b _ sound) (rw (lt-leb 16 p low))

  past_3 : p < 16 → Here b p → Past b (Act p o i) 3
  unfolding tests_act
  past_3 low h = pass (past_2 low) (rw (there_as b p b.opened true refl (sym h)))

  past_4 : p < 16 → Here b p → input_sound (sound_as Input i) ≡ Ok tt → Past b (Act p o i) 4
  unfolding tests_act
  past_4 low h w = pass (past_3 low h) (ap said w)

-- what the code has found once these are passed; k: what the operation does
record Ready (b : Book) (p o : ℕ) (i : List ℕ) (x : View) (d : CodeDoing) : Type 0 where
  past : Past b (Act p o i) 5
  here : Here b p
  known : acts o ≡ true
  doing : d ≡ in_code (doing o)
  -- what the place holds and has reserved, as amounts, and that it is no more than there is
  held : (place_record b p).balance ≡ whole_of x.held
  reserved : whole_of x.reserved ≡ (place_record b p).reserved
  bounded : val x.held + val x.reserved ≤ total b

module _ {b : Book} (c : In-Some) (v : Shows b (Code.Act c.args.place c.args.operation) c.args.was) (sound : is_well_formed b ≡ true) where
  ready : Ready b c.args.place c.args.operation c.args.sheet.now c.args.was c.in-Some.doing
  unfolding tests_act
  ready =
      let low : c.args.place < 16 = omega arith in
      let here = open_as b _ _ _ v.opened c.has.ensures ∙ c.if-not-has.false in
      let found = doing_found _ (sym c.doing_of.ensures ∙ c.in-Some.is) in
      let held = held_whole v sound c.args.place refl low in
      let reserved = reserved_whole b sound c.args.place low (v.reserved ∙ rw (mod-eq_of_lt low)) in
      record {
        past = pass (past_4 b sound _ c.args.operation _ low here (sym c.require_sound_input.ensures ∙ c.in_ok-require_sound_input.was)) (rw found.0);
        here = here;
        known = found.0;
        doing = found.1;
        held = held;
        reserved = reserved;
        bounded = rw (held, ← reserved) at (stock_within b c.args.place sound low here);
      }

-- ---- the check

module _ {b : Book} {p o : ℕ} {i : List ℕ} {x : View} {d : CodeDoing} (r : Ready b p o i x d) where
  unauthorized : (e : ProfileError) → authorizing o (field i) ≡ Err e → Err (Profile e) ≡ answer b (Act p o i)
  unfolding tests_act
  unauthorized e h = stop r.past _ (act_unauthorized b _ _ _ r.here r.known e h)

  -- who authorized it is there
  module _ (author : authorizing o (field i) ≡ Ok tt) where
    abbrev its_amounts : Outcome
    its_amounts = amounts (adds o) (place_record b p).balance (amount_in amount (field i amount))

    checks : check_at (seen b) p (field i) o ≡ said its_amounts
    checks = act_amounts b _ _ _ r.here r.known author

    fails : (e : ProfileError) → its_amounts ≡ Err e → Err (Profile e) ≡ answer b (Act p o i)
    unfolding tests_act
    fails e h = stop r.past _ (checks ∙ ap said h)

    unread : (e : ProfileError) → amount_in amount (field i amount) ≡ Err e → Err (Profile e) ≡ answer b (Act p o i)
    unread e h = fails e (amounts_failed (adds o) (place_record b p).balance _ e h)

    -- the amount is read
    module _ {a : Amount} (given : amount_in amount (field i amount) ≡ Ok a) where
      asks : val a.mantissa ≡ credits_in amount i
      asks = val_of (asks_number amount i _ given)

      nothing : (e : ProfileError) → above_zero a ≡ Err e → Err (Profile e) ≡ answer b (Act p o i)
      nothing e h = fails e (amounts_nothing (adds o) _ _ _ (asks_for amount i _ given) e (rw (is_whole amount i _ given) at h))

-- what the code has found once the check is passed but for 15: who authorized it is there, and the amount a is read and not zero
record Asked (b : Book) (p o : ℕ) (i : List ℕ) (x : View) (d : CodeDoing) (a : Amount) : Type 0 where
  ready : Ready b p o i x d
  author : authorizing o (field i) ≡ Ok tt
  given : amount_in amount (field i amount) ≡ Ok a
  some : above_zero a ≡ Ok tt

module _ {b : Book} (c : Else-is_zero) (v : Shows b (Code.Act c.args.place c.args.operation) c.args.was) (sound : is_well_formed b ≡ true) where
  asked : Asked b c.args.place c.args.operation c.args.sheet.now c.args.was c.in-Some.doing (whole_of c.in-Some-input_mantissa.amount)
  asked =
      record {
        ready = ready (goal.at.Else-is_zero c).In-Some v sound;
        author = sym c.require_authorized.ensures ∙ c.in_ok-require_authorized.was;
        given = mantissa_given _ _ _ (sym c.input_mantissa.ensures ∙ c.in-Some-input_mantissa.is);
        some = is_positive _ _ c.is_zero.ensures c.if-is_zero.false;
      }

module _ {b : Book} {p o : ℕ} {i : List ℕ} {x : View} {d : CodeDoing} {a : Amount} (f : Asked b p o i x d a) where
  abbrev n : ℕ
  n = credits_in amount i

  number : val a.mantissa ≡ n
  number = asks f.ready f.author f.given

  some_whole : above_zero (whole_amount n) ≡ Ok tt
  some_whole = rw (is_whole amount i _ f.given) at f.some

  passes : its_amounts f.ready f.author ≡ Ok tt → Past b (Act p o i) 6
  unfolding tests_act
  passes h = pass f.ready.past (checks f.ready f.author ∙ ap said h)

  unreserved : val x.reserved < n → after_check Releasing (seen b) p n ≡ Err NotReserved
  unreserved l = rw (reserved_is b p f.ready.here, ← f.ready.reserved, lt-ltb (val x.reserved) n l)

  enough : n ≤ val x.reserved → after_check Releasing (seen b) p n ≡ Ok tt
  enough l = rw (reserved_is b p f.ready.here, ← f.ready.reserved, le-ltb (val x.reserved) n l)

  -- the operation does k
  module _ (k : Doing) (code : d ≡ in_code k) where
    does : doing o ≡ k
    does = does_so o k f.ready.doing code

    added : rises k ≡ true → Past b (Act p o i) 6
    added e = passes (amounts_added (adds o) _ _ _ (asks_for amount i _ f.given) some_whole (adds_is o k does ∙ e))

    module _ (e : rises k ≡ false) where
      down : adds o ≡ false
      down = adds_is o k does ∙ e

      scale : (place_record b p).balance.scale ≡ 0
      scale = ap (λ (z : Amount). z.scale) f.ready.held

      short : val x.held < val a.mantissa → Err (Profile (InsufficientQuantity (whole_of x.held) (whole_of a.mantissa))) ≡ answer b (Act p o i)
      short l =
          let q : whole_amount n ≡ whole_of a.mantissa = ap whole_of (sym (asks_number amount i _ f.given)) in
          rw (← q, ← f.ready.held)
          (fails f.ready f.author _ (amounts_short (adds o) _ _ _ (asks_for amount i _ f.given) some_whole down scale (rw (f.ready.held, ← number) l)))

      taken : val a.mantissa ≤ val x.held → Past b (Act p o i) 6
      taken l = passes (amounts_taken (adds o) _ _ _ (asks_for amount i _ f.given) some_whole down scale (rw (f.ready.held, ← number) l))

    -- 25 and 31
    after_is : after_check (doing o) (seen b) p n ≡ after_check k (seen b) p n
    after_is = ap (λ (m : Doing). after_check m (seen b) p n) does

    refused : {e : BookError} → Past b (Act p o i) 6 → after_check k (seen b) p n ≡ Err e → Err e ≡ answer b (Act p o i)
    unfolding tests_act
    refused z h = stop z _ (after_is ∙ h)

    accepted : Past b (Act p o i) 6 → after_check k (seen b) p n ≡ Ok tt → answer b (Act p o i) ≡ Ok tt
    unfolding tests_act
    accepted z h = all_passed (pass z (after_is ∙ h)) refl

    -- the total
    moves : (m t : ℕ) → m + takes (Act p o i) ≡ t + issues (Act p o i) → m + outflow (act_flow k n) ≡ t + inflow (act_flow k n)
    moves m t h = rw does at h

-- ---- the goals
pub returns-then-place-ge-PLACES : goal.returns-then-place-ge-PLACES
unfolding tests_act
returns-then-place-ge-PLACES c b v n =
    refuses _ OffTheBook _ refl (stop (past_sound b _ (counted v n).0) _ (rw (le-leb 16 c.args.place c.if-place-ge-PLACES.true)))

pub returns-then-not-has : goal.returns-then-not-has
unfolding tests_act
returns-then-not-has c b v n =
    refuses _ (Profile Unborn) _ refl
    (stop (past_2 b (counted v n).0 _ c.args.operation c.args.sheet.now (omega arith)) _ (rw (there_as b _ _ _ v.opened c.has.ensures ∙ c.if-not-has.true)))

pub returns-in_err-require_sound_input : goal.returns-in_err-require_sound_input
unfolding tests_act
returns-in_err-require_sound_input c b v n =
    refuses _ _ _ (exits _ _ c.from_residual.ensures.1)
    (stop (past_3 b (counted v n).0 _ c.args.operation c.args.sheet.now (omega arith) (open_as b _ _ _ v.opened c.has.ensures ∙ c.if-not-has.false)) _
    (ap said (sym c.require_sound_input.ensures ∙ c.in_err-require_sound_input.was)))

pub returns-in_default : goal.returns-in_default
unfolding tests_act
returns-in_default c b v n =
    refuses _ (Profile UnknownOperation) _ refl
    (stop (past_4 b (counted v n).0 _ c.args.operation c.args.sheet.now (omega arith) (open_as b _ _ _ v.opened c.has.ensures ∙ c.if-not-has.false) (sym c.require_sound_input.ensures ∙ c.in_ok-require_sound_input.was)) _
    (rw (doing_unfound _ (sym c.doing_of.ensures ∙ c.in_default.is))))

pub returns-in_err-require_authorized : goal.returns-in_err-require_authorized
returns-in_err-require_authorized c b v n =
    let r = ready (goal.at.returns-in_err-require_authorized c).In-Some v (counted v n).0 in
    refuses _ _ _ (exits _ _ c.from_residual-in_err-require_authorized.ensures.1) (unauthorized r _ (sym c.require_authorized.ensures ∙ c.in_err-require_authorized.was))

pub returns-in_default-input_mantissa : goal.returns-in_default-input_mantissa
returns-in_default-input_mantissa c b v n =
    let r = ready (goal.at.returns-in_default-input_mantissa c).In-Some v (counted v n).0 in
    refuses _ _ _ (ap (λ (e : ProfileError). Err (Profile e)) c.amount_refusal.ensures)
    (unread r (sym c.require_authorized.ensures ∙ c.in_ok-require_authorized.was) _ (mantissa_absent _ _ (sym c.input_mantissa.ensures ∙ c.in_default-input_mantissa.is)))

pub returns-then-is_zero : goal.returns-then-is_zero
returns-then-is_zero c b v n =
    let r = ready (goal.at.returns-then-is_zero c).In-Some v (counted v n).0 in
    refuses _ _ _ refl
    (nothing r (sym c.require_authorized.ensures ∙ c.in_ok-require_authorized.was) (mantissa_given _ _ _ (sym c.input_mantissa.ensures ∙ c.in-Some-input_mantissa.is)) _ (not_positive _ _ c.is_zero.ensures c.if-is_zero.true))

pub returns-in_default-checked_add : goal.returns-in_default-checked_add
returns-in_default-checked_add c b v n =
    let f = asked (goal.at.returns-in_default-checked_add c).Else-is_zero v (counted v n).0 in
    let past : limit ≤ total b + credits_in amount c.args.sheet.now =
    rw (val_of (counted v n).1, number f) at (checked_none _ (sym c.in_default-checked_add.is ∙ c.checked_add.ensures)) in
    refuses _ TooMuch _ refl (refused f Issuing c.in-Issuing.is (added f Issuing c.in-Issuing.is refl) (no_room b _ past))

pub returns-in_default-checked_sub : goal.returns-in_default-checked_sub
returns-in_default-checked_sub c b v n =
    let f = asked (goal.at.returns-in_default-checked_sub c).Else-is_zero v (counted v n).0 in
    let less = difference_none _ _ (sym c.in_default-checked_sub.is ∙ c.checked_sub.ensures) in
    refuses _ _ _ (ap Err c.short.ensures) (short f Taking c.in-Taking.is refl less)

pub returns-in_default-checked_sub-2 : goal.returns-in_default-checked_sub-2
returns-in_default-checked_sub-2 c b v n =
    let f = asked (goal.at.returns-in_default-checked_sub-2 c).Else-is_zero v (counted v n).0 in
    let less = difference_none _ _ (sym c.in_default-checked_sub-2.is ∙ c.checked_sub-in-Reserving.ensures) in
    refuses _ _ _ (ap Err c.short-in_default-checked_sub-2.ensures) (short f Reserving c.in-Reserving.is refl less)

pub returns-in_default-checked_sub-3 : goal.returns-in_default-checked_sub-3
returns-in_default-checked_sub-3 c b v n =
    let f = asked (goal.at.returns-in_default-checked_sub-3 c).Else-is_zero v (counted v n).0 in
    let past = rw (number f) at (difference_none _ _ (sym c.in_default-checked_sub-3.is ∙ c.checked_sub-in-Releasing.ensures)) in
    refuses _ NotReserved _ refl (refused f Releasing c.in-Releasing.is (added f Releasing c.in-Releasing.is refl) (unreserved f past))

pub returns-in-Some-checked_add : goal.returns-in-Some-checked_add
returns-in-Some-checked_add c b v n =
    let i = c.args.sheet.now in
    let f = asked (goal.at.returns-in-Some-checked_add c).Else-is_zero v (counted v n).0 in
    let e = does f Issuing c.in-Issuing.is in
    let sum = checked_is _ _ (sym c.in-Some-checked_add.is ∙ c.checked_add.ensures) in
    let all = val_of (counted v n).1 in
    let room : total b + credits_in amount i < limit = rw (all, number f) at sum.0 in
    let yes· = accepted f Issuing c.in-Issuing.is (added f Issuing c.in-Issuing.is refl) (room_so b _ room) in
    let more = wrapped_sum _ _ c.wrapping_add.ensures (rw (number f) (omega (arith, room, f.ready.bounded))) in
    accepts i _ yes·
    (stored_act b _ _ _ yes· _ _ _ _ v (more ∙ rw (adds_is _ Issuing e, f.ready.held, number f)) (rw e f.ready.reserved))
    (λ m h. ap Some (sum.1 ∙ ap halves (rw (all, number f) (omega (arith, moves f Issuing c.in-Issuing.is m (total b) h)))))

pub returns-in-Some-checked_sub : goal.returns-in-Some-checked_sub
returns-in-Some-checked_sub c b v n =
    let i = c.args.sheet.now in
    let f = asked (goal.at.returns-in-Some-checked_sub c).Else-is_zero v (counted v n).0 in
    let e = does f Taking c.in-Taking.is in
    let rest = difference_is _ _ _ (sym c.in-Some-checked_sub.is ∙ c.checked_sub.ensures) in
    let all = val_of (counted v n).1 in
    let yes· = accepted f Taking c.in-Taking.is (taken f Taking c.in-Taking.is refl rest.0) refl in
    let less = wrapped_difference _ _ c.wrapping_sub.ensures (rw all (omega (arith, rest.0, f.ready.bounded))) (rw all (formed b (counted v n).0).fits) in
    accepts i _ yes·
    (stored_act b _ _ _ yes· _ _ _ _ v (rest.1 ∙ rw (adds_is _ Taking e, f.ready.held, number f)) (rw e f.ready.reserved))
    (λ m h. ap Some (less ∙ ap halves (rw (all, number f) (omega (arith, moves f Taking c.in-Taking.is m (total b) h)))))

pub returns-in-Some-checked_sub-2 : goal.returns-in-Some-checked_sub-2
returns-in-Some-checked_sub-2 c b v n =
    let i = c.args.sheet.now in
    let f = asked (goal.at.returns-in-Some-checked_sub-2 c).Else-is_zero v (counted v n).0 in
    let e = does f Reserving c.in-Reserving.is in
    let rest = difference_is _ _ _ (sym c.in-Some-checked_sub-2.is ∙ c.checked_sub-in-Reserving.ensures) in
    let yes· = accepted f Reserving c.in-Reserving.is (taken f Reserving c.in-Reserving.is refl rest.0) refl in
    let more = wrapped_sum _ _ c.wrapping_add-in-Reserving.ensures (omega (arith, rest.0, f.ready.bounded, (formed b (counted v n).0).fits)) in
    accepts i _ yes·
    (stored_act b _ _ _ yes· _ _ _ _ v (rest.1 ∙ rw (adds_is _ Reserving e, f.ready.held, number f))
    (rw (e, ← f.ready.reserved) (ap whole_of (more ∙ rw (number f)))))
    (λ m h. uncharged v (counted v n).0 (omega (arith, moves f Reserving c.in-Reserving.is m (total b) h)))

pub returns-in-Some-checked_sub-3 : goal.returns-in-Some-checked_sub-3
returns-in-Some-checked_sub-3 c b v n =
    let i = c.args.sheet.now in
    let f = asked (goal.at.returns-in-Some-checked_sub-3 c).Else-is_zero v (counted v n).0 in
    let e = does f Releasing c.in-Releasing.is in
    let rest = difference_is _ _ _ (sym c.in-Some-checked_sub-3.is ∙ c.checked_sub-in-Releasing.ensures) in
    let within : credits_in amount i ≤ val c.args.was.reserved = rw (number f) at rest.0 in
    let yes· = accepted f Releasing c.in-Releasing.is (added f Releasing c.in-Releasing.is refl) (enough f within) in
    let more = wrapped_sum _ _ c.wrapping_add-in-Releasing.ensures (omega (arith, rest.0, f.ready.bounded, (formed b (counted v n).0).fits)) in
    accepts i _ yes·
    (stored_act b _ _ _ yes· _ _ _ _ v (more ∙ rw (adds_is _ Releasing e, f.ready.held, number f))
    (rw (e, ← f.ready.reserved) (ap whole_of (rest.1 ∙ rw (number f)))))
    (λ m h. uncharged v (counted v n).0 (omega (arith, moves f Releasing c.in-Releasing.is m (total b) h)))
