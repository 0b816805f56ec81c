-- Document 02, request 4: an accepted check is a promise. The theorem is `promise`; `always_holds` says that 548 bytes hold the sheet.
use mathlib.Core.Path.{◌≡◌, refl, sym, ap, ◌∙◌, subst}
use mathlib.Core.Bool.{Bool, true, false, not}
use mathlib.Core.List.{List, [], ◌∷◌}
use Prim.Native.Nat.{ℕ, ◌+◌, ◌-◌, ◌*◌, ◌^◌, ◌<◌, ◌≤◌}
use native.Mathlib.Omega.{arith}
use native.Mathlib.Nat.{le_trans, mul_assoc}
use lib.Dec.{eqb}
use lib.ListN.{length}
use lib.Pow.{pow-add}
use borrow.Author.Tests.{le-leb}
use Rattle.std.specs.Prelude.{Ok, Err}
use Rattle.std.proofs.lemmas.List.Elements.{All-from_recursion}
use Rattle.amount.specs.Numbers.{val, limit}
use Rattle.amount.specs.Amounts.{mantissa_at, common_scale, compare_of, difference_of}
use Rattle.amount.specs.declared.Amount.{Amount}
use Rattle.std.specs.declared.cmp.Ordering.TheVariants.{Less}
use Rattle.amount.proofs.Halves.{whole_of}
use Rattle.amount.proofs.Theorems.{difference_is_exact, difference_is_given}
use Rattle.sheet.specs.Amounts.{amount_at}
use Rattle.sheet.specs.Fields.{figure, sight_of, field, subject, unit, quantity, balance, remaining, maximum, amount, to_subject, to_unit, authorized_by}
use Rattle.sheet.proofs.Three.{meter_has, meter_sound}
use Rattle.registry.specs.Refusals.{answer_of, Outcome}
use Rattle.registry.specs.Readers.{amount_in, amount_of, text_in, text_of}
use Rattle.registry.specs.Tests.{among, state_there, held_by, first_of, born, in_text, draws_on}
use Rattle.registry.specs.Call.{called}
use Rattle.registry.specs.declared.error.ProfileError.TheVariants.{Unborn, InsufficientQuantity}
use Rattle.registry.proofs.Tests.{refused_never, then_both, drawn, among_each}
use Rattle.registry.proofs.Readers.{amount_in_whole, amount_of_is, text_of_filled}
use Rattle.registry.proofs.Words.{refusal_positive, zero_is_accepted}
use Rattle.registry.specs.declared.error.Answer.{Answer}
use Rattle.profiles.specs.Stack.{stack_rules}
use Rattle.profiles.specs.Balance.{balance_rules}
use Rattle.profiles.specs.Meter.{meter_rules}
use Rattle.profiles.specs.Check.{check_of, rules}
use Rattle.writer.specs.Encode.{put_into, put_answer}
use Rattle.writer.proofs.RoundTrip.{Sized}
use Rattle.resource_state.specs.Next.{sheet_of, stack_of, balance_of, meter_of, unless_refused, Next}
use Rattle.resource_state.specs.Apply.{stack_next, balance_next, meter_next, next_by, next_of}
use Rattle.resource_state.specs.declared.Part.TheVariants as Part
use Rattle.resource_state.specs.declared.ResourceState.{ResourceState}
use Rattle.transition.specs.Written.{answer_to, buffer_after, Bytes}
use Rattle.transition.proofs.Sizes.{field_sized}
use Rattle.transition.proofs.Enough.{apply_largest}
use Rattle.transition.proofs.WrittenBack.{view_of, kind_of, written_back}
use Rattle.promise.specs.Promise.{PromiseRow, promise_rows, NonEmpty, Holds, Cleared, Adds, Fulfilled, Promise, next_checked}

-- ---- what is held, what is asked and what is left

-- a difference that is given is exact
tens : (m j k : ℕ) → m * 10 ^ (k + j) ≡ m * 10 ^ j * 10 ^ k
tens m j k = ap (λ (n : ℕ). m * 10 ^ n) (omega arith) ∙ ap (λ (n : ℕ). m * n) (pow-add 10 j k) ∙ sym (mul_assoc m (10 ^ j) (10 ^ k))

exact : (held asked left : Amount) → difference_of held asked ≡ Ok left → Adds left asked held
exact held asked left e =
    omega (
      arith,
      difference_is_exact held asked left e,
      tens (val left.mantissa) held.scale asked.scale,
      mul_assoc (val left.mantissa) (10 ^ held.scale) (10 ^ asked.scale),
      tens (val asked.mantissa) held.scale left.scale,
      tens (val held.mantissa) asked.scale left.scale,
    )

-- what is asked is whole, so what is held is not rescaled
as_it_is : (held asked : Amount) → asked.scale ≡ 0 → val held.mantissa < limit → mantissa_at held (common_scale held asked) < limit
unfolding mantissa_at
as_it_is held asked e f =
    let m : common_scale held asked ≡ held.scale = rw e (omega arith) in
    let d : held.scale - held.scale ≡ 0 = omega arith in
    rw (m, d) (omega arith)

not_short : (held asked : Amount) → held_by held asked ≡ Ok tt → compare_of held asked ≡ Less → ⊥
unfolding held_by
not_short held asked h e = refused_never (InsufficientQuantity held asked) (rw e at h)

module _ (s i : List ℕ) (held asked : ℕ) where
  pub record Taken : Type 0 where
    pub from : Amount
    pub taken : Amount
    pub left : Amount
    pub from_is : amount_of held (field s held) ≡ Ok from
    pub taken_is : amount_in asked (field i asked) ≡ Ok taken
    pub left_is : difference_of from taken ≡ Ok left

  takes : Bytes s → first_of s i (draws_on held asked) ≡ Ok tt → Taken
  takes bytes h =
      let d = drawn amount_in (sight_of s) (field i) held asked h in
      let w = amount_in_whole asked (field i asked) d.taken d.taken_is in
      let z : Sized d.from = field_sized s bytes held d.from (amount_of_is held (field s held) d.from d.from_is) in
      let g = difference_is_given d.from d.taken (as_it_is d.from d.taken (ap (λ (a : Amount). a.scale) w.2) (whole_of d.from.mantissa z.hi z.lo).fits) (not_short d.from d.taken d.within) in
      record { from = d.from; taken = d.taken; left = g.0; from_is = d.from_is; taken_is = d.taken_is; left_is = g.1 }

  -- what apply makes, whatever it is made of
  pub record MadeWith (make : Amount → ResourceState) (next : Next) : Type 0 where
    pub of : Taken
    pub made : next ≡ Ok (make of.left)

-- ---- what apply does, operation by operation: what it tests and check does not are the state's texts, a meter's maximum, and 18

is_there : (x : Bool) → state_there (not x) ≡ Ok tt → x ≡ false
unfolding state_there
is_there true h = refused_never Unborn h
is_there false h = refl

module _ (s i : List ℕ) (bytes : Bytes s) (held asked : ℕ) (make : Amount → ResourceState) (next : Next) where
  plain : (eqb (length s) 0 ≡ false → (k : Taken s i held asked) → next ≡ Ok (make k.left)) → first_of s i (born ∷ draws_on held asked) ≡ Ok tt → MadeWith s i held asked make next
  plain f h =
      let b = then_both (state_there (not (eqb (length s) 0))) _ h in
      let k = takes s i held asked bytes b.1 in
      record { of = k; made = f (is_there _ b.0) k }

  with_text : (name : ℕ) → (eqb (length s) 0 ≡ false → text_in name (field i name) ≡ Ok tt → (k : Taken s i held asked) → next ≡ Ok (make k.left))
      → first_of s i (born ∷ in_text name ∷ draws_on held asked) ≡ Ok tt → MadeWith s i held asked make next
  with_text name f h =
      let b = then_both (state_there (not (eqb (length s) 0))) _ h in
      let c = then_both (text_in name (field i name)) _ b.1 in
      let k = takes s i held asked bytes c.1 in
      record { of = k; made = f (is_there _ b.0) c.0 k }

-- the state with what is left; what is converted has the new unit
abbrev stack_with : Amount → ResourceState
stack_with = stack_of (Part.State subject) (Part.State unit)

abbrev balance_with : Amount → ResourceState
balance_with = balance_of (Part.State subject) (Part.State unit)

abbrev converted_with : Amount → ResourceState
converted_with = balance_of (Part.State subject) (Part.Input to_unit)

abbrev meter_with : Amount → Amount → ResourceState
meter_with top l = meter_of (Part.State subject) l top

module _ (s i : List ℕ) (bytes : Bytes s) (has_subject : text_of subject (field s subject) ≡ Ok tt) where
  module _ (has_unit : text_of unit (field s unit) ≡ Ok tt) where
    abbrev StackMade : ℕ → Type 0
    StackMade op = stack_rules amount_in (sight_of s) (field i) op ≡ Ok tt → MadeWith s i quantity quantity stack_with (stack_next amount_in (sight_of s) (field i) op)

    stack_made : (op : ℕ) → among op (3 ∷ 4 ∷ 5 ∷ 6 ∷ []) ≡ true → StackMade op
    unfolding stack_rules stack_next state_there
    stack_made =
        let debit = plain s i bytes quantity quantity stack_with _ (λ there k. rw (there, has_subject, has_unit, k.from_is, k.taken_is, k.left_is)) in
        let transfer = with_text s i bytes quantity quantity stack_with _ to_subject (λ there to k. rw (there, to, has_subject, has_unit, k.from_is, k.taken_is, k.left_is)) in
        among_each StackMade (3 ∷ 4 ∷ 5 ∷ 6 ∷ []) (debit, (debit, (transfer, (debit, tt))))

    abbrev BalanceMade : ℕ → Type 0
    BalanceMade op = balance_rules amount_in (sight_of s) (field i) op ≡ Ok tt → MadeWith s i balance amount balance_with (balance_next amount_in (sight_of s) (field i) op)

    balance_made : (op : ℕ) → among op (14 ∷ 15 ∷ 16 ∷ 18 ∷ 19 ∷ []) ≡ true → BalanceMade op
    unfolding balance_rules balance_next state_there
    balance_made =
        let debit = plain s i bytes balance amount balance_with _ (λ there k. rw (there, has_subject, has_unit, k.from_is, k.taken_is, k.left_is)) in
        let transfer = with_text s i bytes balance amount balance_with _ to_subject (λ there to k. rw (there, to, has_subject, has_unit, k.from_is, k.taken_is, k.left_is)) in
        let burn = with_text s i bytes balance amount balance_with _ authorized_by (λ there by k. rw (there, has_subject, has_unit, k.from_is, k.taken_is, k.left_is)) in
        among_each BalanceMade (14 ∷ 15 ∷ 16 ∷ 18 ∷ 19 ∷ []) (debit, (transfer, (debit, (debit, (burn, tt)))))

  abbrev ConvertMade : ℕ → Type 0
  ConvertMade op = balance_rules amount_in (sight_of s) (field i) op ≡ Ok tt → MadeWith s i balance amount converted_with (balance_next amount_in (sight_of s) (field i) op)

  convert_made : (op : ℕ) → among op (20 ∷ []) ≡ true → ConvertMade op
  unfolding balance_rules balance_next state_there
  convert_made =
      among_each ConvertMade (20 ∷ [])
      (with_text s i bytes balance amount converted_with _ to_unit (λ there to k. rw (there, has_subject, to, k.from_is, k.taken_is, k.left_is)), tt)

  -- a meter's maximum is there because the state is a meter
  module _ (top : Amount) (has_maximum : amount_of maximum (field s maximum) ≡ Ok top) where
    abbrev MeterMade : ℕ → Type 0
    MeterMade op = meter_rules amount_in (sight_of s) (field i) op ≡ Ok tt → MadeWith s i remaining amount (meter_with top) (meter_next amount_in (sight_of s) (field i) op)

    meter_made : (op : ℕ) → among op (22 ∷ []) ≡ true → MeterMade op
    unfolding meter_rules meter_next state_there
    meter_made =
        among_each MeterMade (22 ∷ []) (plain s i bytes remaining amount (meter_with top) _ (λ there k. rw (there, has_subject, has_maximum, k.from_is, k.taken_is, k.left_is)), tt)

-- ---- the promise

abbrev Row : ℕ → ℕ → List ℕ → List ℕ → List ℕ → PromiseRow → Type 0
Row p op s i old t =
    Cleared t p op s i old (answer_of (check_of p op s i)) → Fulfilled t s i old (answer_to (next_of p op s i) s i old) (buffer_after (next_of p op s i) s i old)

module _ (t : PromiseRow) (p op : ℕ) (s i old : List ℕ) (bytes : Bytes s) (c : Cleared t p op s i old (answer_of (check_of p op s i))) where
  passed : (called p op s i ≡ Ok tt) × (rules p op (sight_of s) (field i) ≡ Ok tt)
  unfolding check_of
  passed = then_both (called p op s i) (rules p op (sight_of s) (field i)) (zero_is_accepted (check_of p op s i) c.accepted)

  -- where the profile's lists let apply make a state with what is left, that state is written
  kept : (make : Amount → ResourceState) → kind_of t.profile ≡ t.kind → ((l : Amount) → view_of s i (make l) t.held ≡ figure l)
      → (rules t.profile op (sight_of s) (field i) ≡ Ok tt → MadeWith s i t.held t.asked make (next_by t.profile op (sight_of s) (field i)))
      → Fulfilled t s i old (answer_to (next_of p op s i) s i old) (buffer_after (next_of p op s i) s i old)
  unfolding next_of answer_to buffer_after put_answer put_into
  kept make kind view makes =
      let m : MadeWith s i t.held t.asked make (next_by p op (sight_of s) (field i)) = rw c.profile_is (makes (rw c.profile_is at passed.1)) in
      let new : ResourceState = make m.of.left in
      let w : List ℕ = sheet_of (field s) (field i) new in
      let made : next_of p op s i ≡ Ok new = rw (passed.0, m.made) in
      let back = written_back p op s i new bytes made in
      let fits : length w ≤ length old = subst (λ n. Holds n s i old) made c.holds in
      record {
        sheet = w;
        accepted = rw (passed.0, m.made, le-leb (length w) (length old) fits);
        written = rw (passed.0, m.made, le-leb (length w) (length old) fits);
        kind = back.is ∙ rw c.profile_is kind;
        held = m.of.from;
        asked = m.of.taken;
        left = m.of.left;
        held_is = amount_of_is t.held (field s t.held) m.of.from m.of.from_is;
        asked_is = m.of.taken_is;
        left_is = back.fields t.held ∙ view m.of.left;
        exact = exact m.of.from m.of.taken m.of.left m.of.left_is;
      }

filled : (s : List ℕ) (name : ℕ) → NonEmpty s name → text_of name (field s name) ≡ Ok tt
filled s name = text_of_filled name (field s name)

row_by_row : (p op : ℕ) (s i old : List ℕ) → Bytes s
    → Promise p op s i old (answer_of (check_of p op s i)) (answer_to (next_of p op s i) s i old) (buffer_after (next_of p op s i) s i old)
unfolding amount_of
row_by_row p op s i old bytes =
    All-from_recursion (Row p op s i old) promise_rows (
      λ c. kept _ p op s i old bytes c stack_with refl (λ l. refl) (stack_made s i bytes (filled s subject (c.texts 0 0 (omega arith))) (filled s unit (c.texts 1 0 (omega arith))) op c.operation_is),
      (
        λ c. kept _ p op s i old bytes c balance_with refl (λ l. refl) (balance_made s i bytes (filled s subject (c.texts 0 0 (omega arith))) (filled s unit (c.texts 1 0 (omega arith))) op c.operation_is),
        (
          λ c. kept _ p op s i old bytes c converted_with refl (λ l. refl) (convert_made s i bytes (filled s subject (c.texts 0 0 (omega arith))) op c.operation_is),
          (
            λ c.
                let h = meter_has s (meter_sound s c.kind) in
                kept _ p op s i old bytes c (meter_with (amount_at h.z 0)) refl (λ l. refl)
                (meter_made s i bytes (filled s subject (c.texts 0 0 (omega arith))) (amount_at h.z 0) (rw (h.fields maximum)) op c.operation_is),
            tt,
          ),
        ),
      ),
    )

-- THE PROMISE, of what check answered, what apply answered and the output that it left, whenever each was called: their contracts are premises
pub promise : (p op : ℕ) (s i old : List ℕ) → Bytes s → (check apply : Answer) (out : List ℕ)
    → check ≡ answer_of (check_of p op s i) → apply ≡ answer_to (next_of p op s i) s i old → out ≡ buffer_after (next_of p op s i) s i old
    → Promise p op s i old check apply out
promise p op s i old bytes check apply out e f g = rw (e, f, g) (row_by_row p op s i old bytes)

-- ---- both calls in one: the answer and the output are those of the state that is made where check accepts, and as promised

module _ (p op : ℕ) (s i old : List ℕ) where
  abbrev InOne : Answer → List ℕ → Type 0
  InOne r out =
      (r ≡ answer_to (next_checked p op s i) s i old) × (out ≡ buffer_after (next_checked p op s i) s i old)
      × Promise p op s i old (answer_of (check_of p op s i)) r out

  module _ (check : Answer) (check_is : check ≡ answer_of (check_of p op s i)) where
    pub refused_in_one : (check.number ≡ 0 → ⊥) → InOne check old
    unfolding answer_to buffer_after
    refused_in_one h = go (check_of p op s i) check_is
      where
        go : (o : Outcome) → check ≡ answer_of o
            → (check ≡ answer_to (unless_refused o (next_of p op s i)) s i old) × (old ≡ buffer_after (unless_refused o (next_of p op s i)) s i old)
            × Promise p op s i old (answer_of o) check old
        go (Ok _) e = absurd (h (ap (λ (a : Answer). a.number) e))
        go (Err r) e = (e, refl, λ k d lt c. absurd (omega (arith, c.accepted, refusal_positive r)))

    pub accepted_in_one : Bytes s → check.number ≡ 0 → (r : Answer) (out : List ℕ) → r ≡ answer_to (next_of p op s i) s i old → out ≡ buffer_after (next_of p op s i) s i old
        → InOne r out
    accepted_in_one bytes h r out e f =
        let z : check_of p op s i ≡ Ok tt = zero_is_accepted (check_of p op s i) (rw check_is at h) in
        (rw z e, rw z f, promise p op s i old bytes (answer_of (check_of p op s i)) r out refl e f)

-- 548 bytes hold the sheet, whatever the call
pub always_holds : (p op : ℕ) (s i old : List ℕ) → 548 ≤ length old → Holds (next_of p op s i) s i old
always_holds p op s i old wide = go (next_of p op s i) refl
  where
    go : (n : Next) → next_of p op s i ≡ n → Holds n s i old
    go (Ok state) e = le_trans (apply_largest s i state p op e) wide
    go (Err r) e = tt
