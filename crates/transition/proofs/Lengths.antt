-- Laws of lengths: the texts of a sound sheet have at most 256 bytes, so the length of a written sheet fits 16 bits.
use mathlib.Core.Path.{◌≡◌, refl, sym}
use mathlib.Core.Bool.{Bool, true, false, cond}
use mathlib.Core.List.{List, [], ◌∷◌, ◌++◌}
use Prim.Native.Nat.{ℕ, ◌+◌, ◌<◌, ◌≤◌}
use native.Mathlib.Omega.{arith}
use lib.Dec.{eqb, leb}
use lib.ListN.{length, length-append}
use borrow.Author.Tests.{eqb-true, eqb-false, leb-true}
use Rattle.sheet.specs.Sheet.{entries_from, table, lookup, length_fits, part_of, sound_as, state_of}
use Rattle.sheet.specs.Fields.{field_of, field_of_kind, field}
use Rattle.sheet.specs.Amounts.{amount_bytes}
use Rattle.writer.specs.Encode.{encode, item, stack_sheet, balance_sheet, meter_sheet, put_answer}
use Rattle.sheet.specs.declared.Shape.{Shape}
use Rattle.sheet.specs.declared.Shape.TheVariants.{Input, Stack, Balance, Meter}
use Rattle.sheet.proofs.Holding.{held}
use Rattle.registry.specs.Call.{state_sound, input_sound, operation_of, called}
use Rattle.registry.specs.Tests.{◌then◌}
use Rattle.registry.specs.Refusals.{Outcome}
use Rattle.registry.specs.Readers.{bytes_of}
use Rattle.registry.proofs.Tests.{then_both}
use Rattle.registry.proofs.Readers.{no_bytes}
use Rattle.resource_state.specs.Next.{text_from, sheet_of, unless_refused, Next}
use Rattle.resource_state.specs.Apply.{next_of}
use Rattle.transition.specs.Credit.{credit_of}
use Rattle.std.specs.Option.{ForSome}
use Rattle.transition.specs.Helpers.{ShortTexts}
use Rattle.sheet.specs.declared.Entry.{Entry}
use Rattle.resource_state.specs.declared.Part.{Part}
use Rattle.resource_state.specs.declared.ResourceState.{ResourceState}
use Rattle.resource_state.specs.declared.ResourceState.TheVariants.{ConsumableStack, FungibleBalance, MeteredResource}
use Rattle.std.specs.Prelude.{IfOk, Ok, Err, None, Option, Some}

-- one field
kind_short : (t : Bool) (kind : ℕ) (body : List ℕ) → eqb kind 1 ≡ t → length_fits kind (length body) ≡ true → length (bytes_of (field_of_kind kind body)) ≤ 256
unfolding bytes_of
kind_short true kind body e h =
    let k : kind ≡ 1 = eqb-true kind 1 e in
    rw e (leb-true (length body) 256 (rw k at h))
kind_short false kind body e h = rw (← no_bytes kind body (eqb-false kind 1 e)) (omega arith)

found_short : (shape : Shape) (s : List ℕ) (name : ℕ) (f : Option Entry) → sound_as shape s ≡ true → lookup name (table s) ≡ f → length (bytes_of (field_of s f)) ≤ 256
unfolding bytes_of
found_short shape s name None h e = omega arith
found_short shape s name (Some e) h q =
    let d = held shape s name e h q in
    kind_short (eqb e.kind 1) e.kind (part_of s e) refl (rw d.within.whole d.long)

pub sound_short : (shape : Shape) (s : List ℕ) → sound_as shape s ≡ true → ShortTexts s
unfolding field
sound_short shape s h name = found_short shape s name (lookup name (table s)) h refl

-- a sheet of no bytes has no text
absent_short : (s : List ℕ) → length s ≡ 0 → ShortTexts s
unfolding field entries_from lookup bytes_of
absent_short [] h name = omega arith
absent_short (b ∷ s) h name = absurd (omega arith)

-- a state and an input that a call takes
state_short : (a b c d : Bool) (s : List ℕ) → eqb (length s) 0 ≡ a → sound_as Stack s ≡ b → sound_as Balance s ≡ c → sound_as Meter s ≡ d → (which : ℕ) → Ok tt ≡ state_sound which (state_of s) → ShortTexts s
state_short true b c d s p q r t which h = absent_short s (eqb-true (length s) 0 p)
state_short false true c d s p q r t which h = sound_short Stack s q
state_short false false true d s p q r t which h = sound_short Balance s r
state_short false false false true s p q r t which h = sound_short Meter s t
state_short false false false false s p q r t which h =
    let k = rw (p, q, r, t) at h in
    let z : ◌≡◌ {A = ℕ} 0 1 = cc in
    absurd (omega arith)

pub state_is_short : (s : List ℕ) (which : ℕ) → Ok tt ≡ state_sound which (state_of s) → ShortTexts s
state_is_short s = state_short (eqb (length s) 0) (sound_as Stack s) (sound_as Balance s) (sound_as Meter s) s refl refl refl refl

input_short : (t : Bool) (i : List ℕ) → sound_as Input i ≡ t → Ok tt ≡ input_sound (sound_as Input i) → ShortTexts i
input_short true i e h = sound_short Input i e
input_short false i e h =
    let k = rw e at h in
    let z : ◌≡◌ {A = ℕ} 0 1 = cc in
    absurd (omega arith)

pub input_is_short : (i : List ℕ) → Ok tt ≡ input_sound (sound_as Input i) → ShortTexts i
input_is_short i = input_short (sound_as Input i) i refl

pub call_is_short : (profile op : ℕ) (s i : List ℕ) → Ok tt ≡ called profile op s i → ShortTexts s × ShortTexts i
unfolding called
call_is_short profile op s i h =
    let t = then_both (state_sound 1 (state_of s)) (input_sound (sound_as Input i) then operation_of profile op) (sym h) in
    let u = then_both (input_sound (sound_as Input i)) (operation_of profile op) t.1 in
    (state_is_short s 1 (sym t.0), input_is_short i (sym u.0))

-- so of both sheets where a next state is made
short_where : {P : Type 0} (o : Outcome) (n : Next) → (Ok tt ≡ o → P) → IfOk (unless_refused o n) (λ _. P)
short_where (Ok _) (Ok x) f = f refl
short_where (Ok _) (Err e) f = tt
short_where (Err e) n f = tt

pub next_is_short : (profile op : ℕ) (s i : List ℕ) → IfOk (next_of profile op s i) (λ _. ShortTexts s × ShortTexts i)
unfolding next_of
next_is_short profile op s i = short_where (called profile op s i) _ (call_is_short profile op s i)

pub credit_is_short : (op : ℕ) (s d i : List ℕ) → IfOk (credit_of op s d i) (λ _. ShortTexts s × ShortTexts i)
unfolding credit_of
credit_is_short op s d i =
    short_where (state_sound 1 (state_of s) then state_sound 2 (state_of d) then input_sound (sound_as Input i)) _
    (λ h.
    let t = then_both (state_sound 1 (state_of s)) (state_sound 2 (state_of d) then input_sound (sound_as Input i)) (sym h) in
    let u = then_both (state_sound 2 (state_of d)) (input_sound (sound_as Input i)) t.1 in
    (state_is_short s 1 (sym t.0), input_is_short i (sym u.1)))

-- the sheet of a next state, and the length that is answered
text_short : (s i : List ℕ) → ShortTexts s → ShortTexts i → (p : Part) → length (text_from (field s) (field i) p) ≤ 256
text_short s i f g (Part.State n) = f n
text_short s i f g (Part.Input n) = g n

items_length : (n k m : ℕ) (x y z : List ℕ) → length (encode (item 1 1 x ∷ item n k y ∷ item m 3 z ∷ [])) ≡ 19 + (length x + (length y + length z))
unfolding encode
items_length n k m x y z = rw (length-append x (y ++ (z ++ [])), length-append y (z ++ []), length-append z []) (omega arith)

items_fit : (n k m : ℕ) (x y z : List ℕ) → length x ≤ 256 → length y ≤ 256 → length z ≤ 17 → length (encode (item 1 1 x ∷ item n k y ∷ item m 3 z ∷ [])) ≤ 548
items_fit n k m x y z f g h = rw (items_length n k m x y z) (omega arith)

-- the largest sheet has two texts of 256 bytes
pub sheet_fits : (s i : List ℕ) (n : ResourceState) → ShortTexts s → ShortTexts i → length (sheet_of (field s) (field i) n) ≤ 548
unfolding sheet_of stack_sheet balance_sheet meter_sheet
sheet_fits s i (ConsumableStack n) f g =
    items_fit 2 1 3 _ _ (amount_bytes n.quantity) (text_short s i f g n.subject) (text_short s i f g n.unit) (omega arith)
sheet_fits s i (FungibleBalance n) f g =
    items_fit 2 1 4 _ _ (amount_bytes n.balance) (text_short s i f g n.subject) (text_short s i f g n.unit) (omega arith)
sheet_fits s i (MeteredResource n) f g =
    items_fit 5 3 6 _ (amount_bytes n.remaining) (amount_bytes n.maximum) (text_short s i f g n.subject) (omega arith) (omega arith)

put_case : (t : Bool) (w old : List ℕ) → length w < 65536 → ForSome (cond t (Some (length w)) None) (λ n. n < 65536)
put_case true w old h n e = let q : length w ≡ n = cc in rw q at h
put_case false w old h n e = let z : ◌≡◌ {A = ℕ} 0 1 = cc in absurd (omega arith)

pub put_fits : (w old : List ℕ) → length w ≤ 548 → ForSome (put_answer w old) (λ n. n < 65536)
unfolding put_answer
put_fits w old h = put_case (leb (length w) (length old)) w old (omega (arith, h))
