-- "The sheet written is of the profile's kind": what apply and credit write is a sound state of that kind, and its fields are what was made.
use mathlib.Core.Path.{◌≡◌, refl, sym, subst}
use mathlib.Core.Bool.{Bool, true, false, cond, ◌&&◌}
use mathlib.Core.List.{List, [], ◌∷◌}
use Prim.Native.Nat.{ℕ, ◌/◌, ◌^◌, ◌<◌, ◌≤◌}
use native.Mathlib.Omega.{arith}
use native.Mathlib.Nat.{div-lt_iff_lt-mul, mod-lt}
use lib.Dec.{eqb, ltb}
use lib.ListN.{length}
use borrow.Author.Tests.{ltb-true}
use Rattle.amount.specs.Numbers.{limit, halves}
use Rattle.amount.specs.Amounts.{amount_if, compare_of, lesser_by, min_of, sum_of, difference_of}
use Rattle.amount.specs.declared.Amount.{Amount}
use Rattle.std.specs.declared.cmp.Ordering.{Ordering}
use Rattle.std.specs.declared.cmp.Ordering.TheVariants.{Less, Equal, Greater}
use Rattle.sheet.specs.Fields.{Field, absent, text, figure, other, sight_of, field, three, unit, quantity, balance, amount, to_subject}
use Rattle.sheet.specs.Sheet.{state_of, sound_as}
use Rattle.sheet.specs.declared.Shape.TheVariants.{Input}
use Rattle.sheet.specs.declared.State.{State}
use Rattle.sheet.specs.declared.State.TheVariants as Kind
use Rattle.registry.specs.Refusals.{zero_amount, Outcome, Reading}
use Rattle.registry.specs.Readers.{given_or, amount_in, amount_of, read_amount}
use Rattle.registry.proofs.Tests.{failed_never}
use Rattle.registry.proofs.Readers.{amount_in_whole}
use Rattle.registry.specs.Tests.{among, first, ◌then◌}
use Rattle.registry.specs.Call.{called, state_sound, input_sound}
use Rattle.registry.specs.declared.error.ProfileError.{ProfileError}
use Rattle.registry.specs.declared.error.ProfileError.TheVariants.{UnknownOperation, NoCredit}
use Rattle.writer.proofs.RoundTrip.{Sized, Back, stack_back, balance_back, meter_back}
use Rattle.resource_state.specs.Next.{Gives, zero, given, kept, the_sum, the_difference, lesser, Makes, a_stack, a_balance, a_meter, ApplyRow, unless_refused, amount_for, made, applied, text_from, sheet_of, with_amount}
use Rattle.resource_state.specs.Apply.{stack_applies, balance_applies, meter_applies, stack_next, balance_next, meter_next, next_by, next_of}
use Rattle.resource_state.specs.declared.Part.{Part}
use Rattle.resource_state.specs.declared.ResourceState.{ResourceState}
use Rattle.resource_state.specs.declared.ResourceState.TheVariants.{ConsumableStack, FungibleBalance, MeteredResource}
use Rattle.transition.specs.Credit.{crediting, existing, unless_failed_by, with_more, credited_stack, credited_balance, credited_amount, credit_by, credit_of}
use Rattle.transition.specs.Written.{Bytes}
use Rattle.transition.specs.Helpers.{ShortTexts}
use Rattle.transition.proofs.Lengths.{state_is_short, input_is_short, call_is_short}
use Rattle.transition.proofs.Sizes.{field_sized}
use Rattle.std.specs.Prelude.{Ok, Err}
use Rattle.amount.specs.declared.AmountError.{AmountError}

-- ---- every amount that a next state can have is one of 128 bits

zero_sized : Sized zero_amount
zero_sized = record { lo = omega arith; hi = omega arith }

high_fits : (m : ℕ) → m < limit → m / 2 ^ 64 < 2 ^ 64
unfolding limit
high_fits m f = (div-lt_iff_lt-mul {k = 2 ^ 64} {x = m} {y = 2 ^ 64} (omega arith)).1 f

halves_sized : (m scale : ℕ) → m < limit → Sized (record { mantissa = halves m; scale = scale })
unfolding halves
halves_sized m scale f = record { lo = mod-lt m (omega arith); hi = high_fits m f }

if_sized : (e : ProfileError) (o : AmountError) (t : Bool) (m scale : ℕ) → Sized (read_amount (given_or e (amount_if o t m scale)))
unfolding amount_if
if_sized e o t m scale = go t (ltb m limit) refl
  where
    go : (t u : Bool) → ltb m limit ≡ u → Sized (read_amount (given_or e (cond (t && u) (Ok (record { mantissa = halves m; scale = scale })) (Err o))))
    go true true q = halves_sized m scale (ltb-true m limit q)
    go true false q = zero_sized
    go false u q = zero_sized

asked_sized : (n : ℕ) (f : Field) → Sized (read_amount (amount_in n f))
asked_sized n f = go (amount_in n f) refl
  where
    go : (r : Reading) → amount_in n f ≡ r → Sized (read_amount r)
    go (Err e) q = zero_sized
    go (Ok a) q =
        let w = amount_in_whole n f a q in
        rw w.2 (halves_sized w.0 0 w.1)

held_sized : (n : ℕ) (f : Field) → ((a : Amount) → f ≡ figure a → Sized a) → Sized (read_amount (amount_of n f))
unfolding amount_of
held_sized n absent h = zero_sized
held_sized n (text t) h = zero_sized
held_sized n (figure a) h = h a refl
held_sized n other h = zero_sized

lesser_sized : (o : Ordering) (a b : Amount) → Sized a → Sized b → Sized (lesser_by o a b)
lesser_sized Less a b x y = x
lesser_sized Equal a b x y = y
lesser_sized Greater a b x y = y

module _ (s i : List ℕ) (bytes : Bytes s) where
  amount_sized : (g : Gives) → Sized (amount_for amount_in (sight_of s) (field i) g)
  unfolding sum_of difference_of min_of
  amount_sized zero = zero_sized
  amount_sized (given n) = asked_sized n (field i n)
  amount_sized (kept n) = held_sized n (field s n) (field_sized s bytes n)
  amount_sized (the_sum h a) = if_sized _ AmountError.Overflow _ _ _
  amount_sized (the_difference h a) = if_sized _ AmountError.Underflow _ _ _
  amount_sized (lesser a h) =
      lesser_sized (compare_of (read_amount (amount_in a (field i a))) (read_amount (amount_of h (field s h)))) _ _ (asked_sized a (field i a)) (held_sized h (field s h) (field_sized s bytes h))

-- ---- the state that is written

-- what a next state holds, by its fields' names
abbrev pub view_of : List ℕ → List ℕ → ResourceState → ℕ → Field
view_of s i (ConsumableStack n) = three 1 (text (text_from (field s) (field i) n.subject)) 2 (text (text_from (field s) (field i) n.unit)) 3 (figure n.quantity)
view_of s i (FungibleBalance n) = three 1 (text (text_from (field s) (field i) n.subject)) 2 (text (text_from (field s) (field i) n.unit)) 4 (figure n.balance)
view_of s i (MeteredResource n) = three 1 (text (text_from (field s) (field i) n.subject)) 5 (figure n.remaining) 6 (figure n.maximum)

abbrev pub kind_made : Makes → State
kind_made (a_stack x y q) = Kind.Stack
kind_made (a_balance x y q) = Kind.Balance
kind_made (a_meter x r m) = Kind.Meter

-- of the kind, and its fields are what was made
abbrev pub WrittenAs : List ℕ → List ℕ → State → ResourceState → Type 0
WrittenAs s i kind n = Back (sheet_of (field s) (field i) n) kind (view_of s i n)

module _ (s i : List ℕ) (bytes : Bytes s) (short : ShortTexts s × ShortTexts i) where
  text_short : (p : Part) → length (text_from (field s) (field i) p) ≤ 256
  text_short (Part.State n) = short.0 n
  text_short (Part.Input n) = short.1 n

  made_written : (m : Makes) → WrittenAs s i (kind_made m) (made amount_in (sight_of s) (field i) m)
  unfolding sheet_of
  made_written (a_stack x y q) = stack_back _ (text_short x) _ (text_short y) _ (amount_sized s i bytes q)
  made_written (a_balance x y q) = balance_back _ (text_short x) _ (text_short y) _ (amount_sized s i bytes q)
  made_written (a_meter x r m) = meter_back _ (text_short x) _ _ (amount_sized s i bytes r) (amount_sized s i bytes m)

  -- all rows of a profile make states of its kind
  abbrev Alike : State → List ApplyRow → Type 0
  Alike kind [] = Unit {0}
  Alike kind (r ∷ rs) = (kind_made r.makes ≡ kind) × Alike kind rs

  applied_written : (kind : State) (op : ℕ) (rs : List ApplyRow) → Alike kind rs → (n : ResourceState) → applied amount_in (sight_of s) (field i) op rs ≡ Ok n → WrittenAs s i kind n
  applied_written kind op [] a n h = failed_never UnknownOperation n h
  applied_written kind op (r ∷ rs) a n h = go (among op r.operations) (first amount_in (sight_of s) (field i) r.tests) (applied_written kind op rs a.1 n) h
    where
      go : (t : Bool) (o : Outcome) → (applied amount_in (sight_of s) (field i) op rs ≡ Ok n → WrittenAs s i kind n)
          → cond t (unless_refused o (Ok (made amount_in (sight_of s) (field i) r.makes))) (applied amount_in (sight_of s) (field i) op rs) ≡ Ok n → WrittenAs s i kind n
      go true (Ok _) rest k =
          let e : made amount_in (sight_of s) (field i) r.makes ≡ n = cc in
          subst (λ x. WrittenAs s i kind x) e (subst (λ x. WrittenAs s i x (made amount_in (sight_of s) (field i) r.makes)) a.0 (made_written r.makes))
      go true (Err e) rest k = failed_never e n k
      go false o rest k = rest k

  pub stack_written : (op : ℕ) (n : ResourceState) → stack_next amount_in (sight_of s) (field i) op ≡ Ok n → WrittenAs s i Kind.Stack n
  unfolding stack_next
  stack_written op = applied_written Kind.Stack op stack_applies (refl, (refl, (refl, (refl, (refl, (refl, tt))))))

  pub balance_written : (op : ℕ) (n : ResourceState) → balance_next amount_in (sight_of s) (field i) op ≡ Ok n → WrittenAs s i Kind.Balance n
  unfolding balance_next
  balance_written op = applied_written Kind.Balance op balance_applies (refl, (refl, (refl, (refl, (refl, tt)))))

  pub meter_written : (op : ℕ) (n : ResourceState) → meter_next amount_in (sight_of s) (field i) op ≡ Ok n → WrittenAs s i Kind.Meter n
  unfolding meter_next
  meter_written op = applied_written Kind.Meter op meter_applies (refl, (refl, (refl, (refl, (refl, tt)))))

-- the kind of a profile
abbrev pub kind_of : ℕ → State
kind_of p = cond (eqb p 1) Kind.Stack (cond (eqb p 2) Kind.Balance Kind.Meter)

-- THE THEOREM
pub written_back : (p op : ℕ) (s i : List ℕ) (n : ResourceState) → Bytes s → next_of p op s i ≡ Ok n → WrittenAs s i (kind_of p) n
unfolding next_of
written_back p op s i n bytes h = go (called p op s i) refl h
  where
    by : (t u : Bool) → ShortTexts s × ShortTexts i
        → cond t (stack_next amount_in (sight_of s) (field i) op) (cond u (balance_next amount_in (sight_of s) (field i) op) (meter_next amount_in (sight_of s) (field i) op)) ≡ Ok n
        → WrittenAs s i (cond t Kind.Stack (cond u Kind.Balance Kind.Meter)) n
    by true u short k = stack_written s i bytes short op n k
    by false true short k = balance_written s i bytes short op n k
    by false false short k = meter_written s i bytes short op n k

    go : (o : Outcome) → called p op s i ≡ o → unless_refused o (next_by p op (sight_of s) (field i)) ≡ Ok n → WrittenAs s i (kind_of p) n
    go (Ok _) e k = by (eqb p 1) (eqb p 2) (call_is_short p op s i (sym e)) k
    go (Err z) e k = failed_never z n k

-- ---- the far end of a transfer: of the operation's kind

raised_sized : (r : Reading) (a : Amount) → Sized (read_amount (with_more r a))
unfolding sum_of
raised_sized (Ok held) a = if_sized _ AmountError.Overflow _ _ _
raised_sized (Err e) a = zero_sized

credited_sized : (o : Outcome) (r : Reading) → Sized (read_amount r) → Sized (read_amount (unless_failed_by o r))
credited_sized (Ok _) r h = h
credited_sized (Err e) r h = zero_sized

module _ (s i : List ℕ) (short : ShortTexts s × ShortTexts i) (n : ResourceState) where
  with_written : (kind : State) (make : Amount → ResourceState) → ((a : Amount) → Sized a → WrittenAs s i kind (make a)) → (r : Reading) → Sized (read_amount r)
      → with_amount r make ≡ Ok n → WrittenAs s i kind n
  with_written kind make w (Ok a) z h =
      let e : make a ≡ n = cc in
      subst (λ x. WrittenAs s i kind x) e (w a z)
  with_written kind make w (Err e) z h = failed_never e n h

  stack_credited : (a : Amount) → Sized a → WrittenAs s i Kind.Stack (credited_stack a)
  unfolding sheet_of
  stack_credited a z = stack_back _ (short.1 to_subject) _ (short.0 unit) _ z

  balance_credited : (a : Amount) → Sized a → WrittenAs s i Kind.Balance (credited_balance a)
  unfolding sheet_of
  balance_credited a z = balance_back _ (short.1 to_subject) _ (short.0 unit) _ z

-- the kind of a transfer
abbrev pub kind_by : ℕ → State
kind_by op = cond (eqb op 5) Kind.Stack Kind.Balance

pub credit_written_back : (op : ℕ) (s d i : List ℕ) (n : ResourceState) → credit_of op s d i ≡ Ok n → WrittenAs s i (kind_by op) n
unfolding credit_of credit_by
credit_written_back op s d i n h =
    go (state_sound 1 (state_of s)) (state_sound 2 (state_of d)) (input_sound (sound_as Input i)) (eqb op 5) (eqb op 15) refl refl h
  where
    sized : (held asked : ℕ) → Sized (read_amount (credited_amount amount_in (sight_of s) (sight_of d) (field i) held asked))
    sized held asked =
        let r : Reading = with_more (existing held (sight_of d)) (read_amount (amount_in asked (field i asked))) in
        credited_sized (first amount_in (sight_of s) (field i) (crediting asked)) r (raised_sized (existing held (sight_of d)) (read_amount (amount_in asked (field i asked))))

    by : (t u : Bool) → ShortTexts s × ShortTexts i
        → cond t (with_amount (credited_amount amount_in (sight_of s) (sight_of d) (field i) quantity quantity) credited_stack)
        (cond u (with_amount (credited_amount amount_in (sight_of s) (sight_of d) (field i) balance amount) credited_balance) (Err NoCredit)) ≡ Ok n
        → WrittenAs s i (cond t Kind.Stack Kind.Balance) n
    by true u short k = with_written s i short n Kind.Stack credited_stack (stack_credited s i short n) (credited_amount amount_in (sight_of s) (sight_of d) (field i) quantity quantity) (sized quantity quantity) k
    by false true short k = with_written s i short n Kind.Balance credited_balance (balance_credited s i short n) (credited_amount amount_in (sight_of s) (sight_of d) (field i) balance amount) (sized balance amount) k
    by false false short k = failed_never NoCredit n k

    go : (x y z : Outcome) (t u : Bool) → state_sound 1 (state_of s) ≡ x → input_sound (sound_as Input i) ≡ z
        → unless_refused (x then y then z)
        (cond t (with_amount (credited_amount amount_in (sight_of s) (sight_of d) (field i) quantity quantity) credited_stack)
        (cond u (with_amount (credited_amount amount_in (sight_of s) (sight_of d) (field i) balance amount) credited_balance) (Err NoCredit))) ≡ Ok n
        → WrittenAs s i (cond t Kind.Stack Kind.Balance) n
    go (Ok _) (Ok _) (Ok _) t u e f k = by t u (state_is_short s 1 (sym e), input_is_short i (sym f)) k
    go (Ok _) (Ok _) (Err r) t u e f k = failed_never r n k
    go (Ok _) (Err r) z t u e f k = failed_never r n k
    go (Err r) y z t u e f k = failed_never r n k
