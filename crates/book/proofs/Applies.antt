-- The effect of an accepted step is theirs: the balance after open, act and begin is what apply writes at the place's view, and
-- after finish what credit writes. So 12, 13, 17, 18 and 20 never arise in a step.
use mathlib.Core.Path.{◌≡◌, refl, sym, ◌∙◌}
use mathlib.Core.Bool.{Bool, true, false, not, cond}
use mathlib.Core.Option.{none}
use mathlib.Core.List.{List, [], ◌∷◌}
use Prim.Native.Nat.{ℕ, ◌+◌, ◌-◌, ◌^◌, ◌<◌, ◌≤◌}
use native.Mathlib.Omega.{arith}
use lib.Dec.{eqb, leb, ltb}
use lib.ListN.{length}
use lib.Seq.{length-take-le}
use borrow.Author.Tests.{ne_eqb, ltb-true, leb-true}
use Rattle.amount.specs.Amounts.{sum_of, difference_of}
use Rattle.amount.specs.declared.Amount.{Amount}
use Rattle.sheet.specs.Fields.{Field, text, field, subject, unit, balance, amount, to_subject, authorized_by}
use Rattle.registry.proofs.Tests.{refused_never, then_both, among_each}
use Rattle.registry.specs.Readers.{amount_in, amount_of, readable, read_amount, text_in, text_of}
use Rattle.registry.specs.Tests.{Test, born, in_text, first, state_absent, state_there}
use Rattle.registry.specs.Refusals.{Reading}
use Rattle.profiles.specs.Balance.{credited, debited, balance_rules}
use Rattle.book.specs.Places.{place_view, closed_view}
use Rattle.resource_state.specs.Next.{balance_of, Next}
use Rattle.resource_state.specs.Apply.{balance_next}
use Rattle.transition.specs.Credit.{credit_by}
use Rattle.resource_state.specs.declared.Part.{Part}
use Rattle.resource_state.specs.declared.Part.TheVariants.{State, Input}
use Rattle.book.specs.Book.{credits, whole_amount, name_bytes, name_ok, place_record, transfer_record, place_at, is_some}
use Rattle.book.specs.Steps.{Open, Act, Begin, credits_in, adds, acts, changed, seen, sent_to, held_at, answer}
use Rattle.book.specs.declared.Name.{Name}
use Rattle.book.specs.declared.Book.{Book}
use Rattle.book.proofs.Facts.{accepted_tests, Opens, opens, Acts, acts_so, Begins, begins}
use Rattle.book.proofs.Formed.{Formed, formed, and_l, and_r}
use Rattle.book.proofs.Views.{place_raw, open_lt}
use Rattle.book.proofs.Invariant.{view_there, is_none}
use Rattle.book.proofs.Effects.{asked, open_stores, act_adds, act_takes, begin_takes, end_adds}
use Rattle.book.proofs.Endings.{ending, end, Ended, ended}
use Rattle.std.specs.Prelude.{Ok, Err}

-- a balance state with these texts and this amount
abbrev pub made : Part → Part → Amount → Next
made s u a = Ok (balance_of s u a)

given_so : (r : Reading) → readable r ≡ Ok tt → r ≡ Ok (read_amount r)
given_so (Ok a) h = refl
given_so (Err e) h = refused_never e h

full : (l : List ℕ) → 0 < length l → eqb (length l) 0 ≡ false
full l h = ne_eqb (length l) 0 (λ e. omega arith)

-- ---- at a place with a subject and a unit, an amount a that is read

module _ (s u : List ℕ) (b : Amount) (inp : ℕ → Field) (hs : 0 < length s) (hu : 0 < length u) (a : Amount) (ha : amount_in amount (inp amount) ≡ Ok a) where
  Applied : ℕ → Type 0
  Applied o = (r : Amount) → cond (adds o) (sum_of b a) (difference_of b a) ≡ Ok r → balance_next amount_in (place_view s u b) inp o ≡ made (State subject) (State unit) r

  act_applied : (o : ℕ) → acts o ≡ true → Applied o
  unfolding Applied acts adds balance_next state_there text_of amount_of
  act_applied o k = among_each Applied (12 ∷ 13 ∷ 14 ∷ 16 ∷ 17 ∷ 18 ∷ 19 ∷ []) (up, (up, (down, (down, (up, (down, (down, tt))))))) o k
    where
      up : (r : Amount) → sum_of b a ≡ Ok r → balance_next amount_in (place_view s u b) inp 12 ≡ made (State subject) (State unit) r
      up r h = rw (full s hs, full u hu, ha, h)

      down : (r : Amount) → difference_of b a ≡ Ok r → balance_next amount_in (place_view s u b) inp 14 ≡ made (State subject) (State unit) r
      down r h = rw (full s hs, full u hu, ha, h)

  transfer_applied : text_in to_subject (inp to_subject) ≡ Ok tt → (r : Amount) → difference_of b a ≡ Ok r → balance_next amount_in (place_view s u b) inp 15 ≡ made (State subject) (State unit) r
  unfolding balance_next state_there text_of amount_of
  transfer_applied t r h = rw (t, full s hs, full u hu, ha, h)

-- ---- an accepted check has read the amount

module _ (s u : List ℕ) (b : Amount) (inp : ℕ → Field) where
  Row-reads : List Test → Type 0
  Row-reads ts = first amount_in (place_view s u b) inp ts ≡ Ok tt → readable (amount_in amount (inp amount)) ≡ Ok tt

  reads_credited : Row-reads (born ∷ credited)
  unfolding Row-reads state_there
  reads_credited h = (then_both (readable (amount_in amount (inp amount))) _ h).0

  reads_debited : Row-reads (born ∷ debited)
  unfolding Row-reads state_there amount_of
  reads_debited h = (then_both (readable (amount_in amount (inp amount))) _ h).0

  reads_with : (n : ℕ) (ts : List Test) → Row-reads (born ∷ ts) → Row-reads (born ∷ in_text n ∷ ts)
  unfolding Row-reads state_there
  reads_with n ts r h = r (then_both (text_in n (inp n)) _ h).1

  Reads : ℕ → Type 0
  Reads o = balance_rules amount_in (place_view s u b) inp o ≡ Ok tt → readable (amount_in amount (inp amount)) ≡ Ok tt

  act_reads : (o : ℕ) → acts o ≡ true → balance_rules amount_in (place_view s u b) inp o ≡ Ok tt → amount_in amount (inp amount) ≡ Ok (read_amount (amount_in amount (inp amount)))
  unfolding Reads Row-reads acts balance_rules
  act_reads o k h =
      given_so (amount_in amount (inp amount))
      (among_each Reads (12 ∷ 13 ∷ 14 ∷ 16 ∷ 17 ∷ 18 ∷ 19 ∷ [])
      (reads_with authorized_by credited reads_credited, (reads_credited, (reads_debited, (reads_debited, (reads_credited, (reads_debited, (reads_with authorized_by debited reads_debited, tt))))))) o k h)

  transfer_reads : balance_rules amount_in (place_view s u b) inp 15 ≡ Ok tt → (text_in to_subject (inp to_subject) ≡ Ok tt) × (amount_in amount (inp amount) ≡ Ok (read_amount (amount_in amount (inp amount))))
  unfolding Row-reads balance_rules state_there
  transfer_reads h =
      ((then_both (text_in to_subject (inp to_subject)) _ h).0, given_so (amount_in amount (inp amount)) (reads_with to_subject debited reads_debited h))

-- ---- the steps, of a book whose names are arrays of 32 bytes, as every one is that code holds

pub record Named (b : Book) (p : ℕ) : Type 0 where
  pub unit : length b.unit.bytes ≡ 32
  pub subject : length (place_record b p).subject.bytes ≡ 32

name_there : (n : Name) → length n.bytes ≡ 32 → name_ok n ≡ true → 0 < length (name_bytes n)
unfolding name_ok name_bytes
name_there n l h =
    let some : 0 < n.len = ltb-true 0 n.len (and_l (ltb 0 n.len) (leb n.len 32) h) in
    let few : n.len ≤ 32 = leb-true n.len 32 (and_r (ltb 0 n.len) (leb n.len 32) h) in
    rw (length-take-le n.len n.bytes (omega arith)) some

-- what is known of an open place of a sound book
module _ (b : Book) (f : Formed b) (p : ℕ) (low : p < 16) (here : is_some (place_at b p) ≡ true) (n : Named b p) where
  unit_there : 0 < length (name_bytes b.unit)
  unit_there = name_there b.unit n.unit f.unit

  subject_there : 0 < length (name_bytes (place_record b p).subject)
  subject_there = name_there (place_record b p).subject n.subject (rw (place_raw b p here).1 at (f.places p low))

pub open_there : (b : Book) (p : ℕ) → ((seen b).place p).there ≡ true → is_some (place_at b p) ≡ true
unfolding seen
open_there b p h = sym (view_there (name_bytes b.unit) (place_at b p)) ∙ h

pub view_is : (b : Book) (p : ℕ) → is_some (place_at b p) ≡ true → (seen b).place p ≡ place_view (name_bytes (place_record b p).subject) (name_bytes b.unit) (place_record b p).balance
unfolding seen
view_is b p here = rw (place_raw b p here).1

-- open: what create makes of the sheet; its balance is what the place gets
pub open_is_apply : (b : Book) (p : ℕ) (i : List ℕ) → answer b (Open p i) ≡ Ok tt
    → balance_next amount_in ((seen b).place p) (field i) 11 ≡ made (Input subject) (Input unit) (whole_amount (credits_in balance i))
unfolding seen balance_rules balance_next state_absent
open_is_apply b p i h =
    let f : Opens (seen b) p i = opens (seen b) p i (accepted_tests b (Open p i) h).1 in
    let closed : place_at b p ≡ none = is_none (place_at b p) (sym (view_there (name_bytes b.unit) (place_at b p)) ∙ f.closed) in
    let check : balance_rules amount_in closed_view (field i) 11 ≡ Ok tt = rw closed at f.check in
    let t = then_both (text_in subject (field i subject)) _ check in
    let r = then_both (text_in unit (field i unit)) _ t.1 in
    rw (t.0, r.0, open_stores b p i h)

-- act: what the operation makes of the place
pub act_is_apply : (b : Book) (p o : ℕ) (i : List ℕ) → Named b p → answer b (Act p o i) ≡ Ok tt
    → balance_next amount_in ((seen b).place p) (field i) o ≡ made (State subject) (State unit) (whole_amount (changed o (held_at b p) (credits_in amount i)))
unfolding Applied
act_is_apply b p o i n h =
    let w : Formed b = formed b (accepted_tests b (Act p o i) h).0 in
    let f : Acts (seen b) p o i = acts_so (seen b) p o i (accepted_tests b (Act p o i) h).1 in
    let here : is_some (place_at b p) ≡ true = open_there b p f.here in
    let v = view_is b p here in
    let s : List ℕ = name_bytes (place_record b p).subject in
    let u : List ℕ = name_bytes b.unit in
    let read = act_reads s u (place_record b p).balance (field i) o f.operation (rw v at f.check) in
    rw v
    (act_applied s u (place_record b p).balance (field i) (subject_there b w p f.low here n) (unit_there b w p f.low here n) (asked amount i) read o f.operation _ (go (adds o) refl))
  where
    go : (t : Bool) → adds o ≡ t → cond (adds o) (sum_of (place_record b p).balance (asked amount i)) (difference_of (place_record b p).balance (asked amount i)) ≡ Ok (whole_amount (changed o (held_at b p) (credits_in amount i)))
    go true e = rw e (act_adds b p o i h e)
    go false e = rw e (act_takes b p o i h e)

-- begin: what transfer makes of the source, with the destination's subject as to_subject
pub begin_is_apply : (b : Book) (f g t : ℕ) (i : List ℕ) → Named b f → answer b (Begin f g t i) ≡ Ok tt
    → balance_next amount_in ((seen b).place f) (sent_to (seen b) g i) 15 ≡ made (State subject) (State unit) (whole_amount (held_at b f - credits_in amount i))
begin_is_apply b f g t i n h =
    let w : Formed b = formed b (accepted_tests b (Begin f g t i) h).0 in
    let k : Begins (seen b) f g t i = begins (seen b) f g t i (accepted_tests b (Begin f g t i) h).1 in
    let here : is_some (place_at b f) ≡ true = open_there b f k.from_here in
    let v = view_is b f here in
    let s : List ℕ = name_bytes (place_record b f).subject in
    let u : List ℕ = name_bytes b.unit in
    let read = transfer_reads s u (place_record b f).balance (sent_to (seen b) g i) (rw v at k.check) in
    rw v
    (transfer_applied s u (place_record b f).balance (sent_to (seen b) g i) (subject_there b w f k.low_from here n) (unit_there b w f k.low_from here n) (asked amount i) read.1 read.0 _ (begin_takes b f g t i h))

-- finish and cancel: what credit makes of the end where the credits land, by an input whose to_subject is that end's subject and whose amount
-- is the transfer's. The other end is its source: a cancel is the transfer turned round
pub end_is_credit : (b : Book) (t : ℕ) (back : Bool) (inp : ℕ → Field) → b.opened < 2 ^ 16 → Named b (end b t back) → answer b (ending t back) ≡ Ok tt
    → inp to_subject ≡ text (name_bytes (place_record b (end b t back)).subject) → amount_in amount (inp amount) ≡ Ok (transfer_record b t).amount
    → credit_by amount_in ((seen b).place (end b t (not back))) ((seen b).place (end b t back)) inp 15
    ≡ made (Input to_subject) (State unit) (whole_amount (held_at b (end b t back) + credits (transfer_record b t).amount))
unfolding credit_by state_there text_in text_of amount_of
end_is_credit b t back inp s n h e a =
    let d : Ended b t back = ended b t back h in
    let p : ℕ = end b t back in
    let low : p < 16 = open_lt b s p (d.here back) in
    rw (
      view_is b (end b t (not back)) (d.here (not back)),
      view_is b p (d.here back),
      e,
      full (name_bytes (place_record b p).subject) (subject_there b d.form p low (d.here back) n),
      full (name_bytes b.unit) (unit_there b d.form p low (d.here back) n),
      a,
      end_adds b t back s h,
    )
