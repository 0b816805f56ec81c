-- Demand 2, "Each book step is those rules, on one account or a pair", of what a step does: after an accepted step its account is seen as
-- what apply makes of the account as it was seen before, and the destination of a finish as what credit makes.
use mathlib.Core.Path.{◌≡◌, refl, ◌∙◌}
use mathlib.Core.Bool.{Bool, true, not}
use mathlib.Core.List.{List}
use Prim.Native.Nat.{ℕ, ◌+◌, ◌-◌, ◌^◌, ◌<◌}
use lib.ListN.{length}
use Rattle.amount.specs.declared.Amount.{Amount}
use Rattle.sheet.specs.Fields.{Field, text, field, Sight, subject, unit, balance, amount, to_subject}
use Rattle.registry.specs.Readers.{bytes_of, amount_in}
use Rattle.resource_state.specs.Next.{text_from, Next}
use Rattle.resource_state.specs.Apply.{balance_next}
use Rattle.resource_state.specs.declared.FungibleBalanceState.{FungibleBalanceState}
use Rattle.resource_state.specs.declared.Part.{Part}
use Rattle.resource_state.specs.declared.Part.TheVariants.{State, Input}
use Rattle.resource_state.specs.declared.ResourceState.TheVariants.{FungibleBalance}
use Rattle.transition.specs.Credit.{credit_by}
use Rattle.book.specs.Places.{place_view}
use Rattle.book.specs.Book.{credits, whole_amount, name_bytes, no_place, place_record, transfer_record, place_at, is_some, open_place, set_balance, set_record, set_credits, set_transfer}
use Rattle.book.specs.Steps.{Open, Act, Begin, credits_in, bytes_in, doing, changed, held_at, sent_to, seen, answer, next}
use Rattle.book.specs.declared.Place.{Place}
use Rattle.book.specs.declared.Transfer.{Transfer}
use Rattle.book.specs.declared.Book.{Book}
use Rattle.book.proofs.Tables.{entry_put, entry_set}
use Rattle.book.proofs.Names.{name_bytes_lem}
use Rattle.book.proofs.Facts.{accepted_tests, Opens, opens, Acts, acts_so, Begins, begins}
use Rattle.book.proofs.Views.{place_raw, open_lt}
use Rattle.book.proofs.Acts.{aside_apart}
use Rattle.book.proofs.Whole.{next_accepted}
use Rattle.book.proofs.Applies.{Named, made, open_there, view_is, open_is_apply, act_is_apply, begin_is_apply, end_is_credit}
use Rattle.book.proofs.Endings.{ending, end, Ended, ended}
use Rattle.book.proofs.Accounts.{same_bytes_lem}
use Rattle.std.specs.Prelude.{Ok}

-- n is a balance state, and v shows it: its texts are those of a state and of an input
pub record SeenAs (n : Next) (st inp : ℕ → Field) (v : Sight) : Type 0 where
  pub state : FungibleBalanceState
  pub made : n ≡ Ok (FungibleBalance state)
  pub shown : v ≡ place_view (text_from st inp state.subject) (text_from st inp state.unit) state.balance

seen_as : (n : Next) (st inp : ℕ → Field) (v : Sight) (x y : Part) (a : Amount) → n ≡ made x y a → v ≡ place_view (text_from st inp x) (text_from st inp y) a → SeenAs n st inp v
seen_as n st inp v x y a e k = record { state = record { subject = x; balance = a; unit = y }; made = e; shown = k }

-- ---- a place after it was opened, or its record set

opened_view : (b : Book) (p : ℕ) (x : Place) → length b.places ≡ 16 → p < 16 → (seen (open_place b p x)).place p ≡ place_view (name_bytes x.subject) (name_bytes b.unit) x.balance
unfolding seen place_at open_place
opened_view b p x size low = rw (entry_put no_place b.opened b.places p x (rw size low)).there

set_view : (b : Book) (p : ℕ) (x : Place) → length b.places ≡ 16 → p < 16 → is_some (place_at b p) ≡ true
    → (seen (set_record b p x)).place p ≡ place_view (name_bytes x.subject) (name_bytes b.unit) x.balance
unfolding seen place_at set_record
set_view b p x size low here = rw (entry_set no_place b.opened b.places p _ (rw size low) (place_raw b p here).0).there

transfer_unseen : (b : Book) (t d : ℕ) (r : Transfer) (p : ℕ) → (seen (set_transfer b t d r)).place p ≡ (seen b).place p
unfolding seen place_at set_transfer
transfer_unseen b t d r p = refl

-- what an open place shows of its texts
module _ (b : Book) (p : ℕ) (here : is_some (place_at b p) ≡ true) (inp : ℕ → Field) where
  subject_seen : text_from ((seen b).place p).at inp (State subject) ≡ name_bytes (place_record b p).subject
  unfolding bytes_of
  subject_seen = rw (view_is b p here)

  unit_seen : text_from ((seen b).place p).at inp (State unit) ≡ name_bytes b.unit
  unfolding bytes_of
  unit_seen = rw (view_is b p here)

-- ---- the four steps

-- An opened place is seen as what create makes of the sheet. Premises: 16 places; the step is accepted.
pub open_seen : (b : Book) (p : ℕ) (i : List ℕ) → length b.places ≡ 16 → answer b (Open p i) ≡ Ok tt
    → SeenAs (balance_next amount_in ((seen b).place p) (field i) 11) ((seen b).place p).at (field i) ((seen (next b (Open p i))).place p)
unfolding seen bytes_in
open_seen b p i size h =
    let t : Opens (seen b) p i = opens (seen b) p i (accepted_tests b (Open p i) h).1 in
    let its_unit : name_bytes b.unit ≡ bytes_in unit i = same_bytes_lem (name_bytes b.unit) (bytes_in unit i) t.same_unit in
    seen_as _ _ _ _ (Input subject) (Input unit) (whole_amount (credits_in balance i)) (open_is_apply b p i h)
    (rw (next_accepted b (Open p i) h) (opened_view b p _ size t.low ∙ rw (name_bytes_lem (bytes_in subject i), its_unit)))

-- After an act the place is seen as what the operation makes of it. Premises: 16 places, names of 32 bytes; the step is accepted.
pub act_seen : (b : Book) (p o : ℕ) (i : List ℕ) → length b.places ≡ 16 → Named b p → answer b (Act p o i) ≡ Ok tt
    → SeenAs (balance_next amount_in ((seen b).place p) (field i) o) ((seen b).place p).at (field i) ((seen (next b (Act p o i))).place p)
act_seen b p o i size named h =
    let t : Acts (seen b) p o i = acts_so (seen b) p o i (accepted_tests b (Act p o i) h).1 in
    let here = open_there b p t.here in
    let apart = aside_apart (credits_in amount i) (set_balance (place_record b p) (whole_amount (changed o (held_at b p) (credits_in amount i)))) (doing o) in
    seen_as _ _ _ _ (State subject) (State unit) (whole_amount (changed o (held_at b p) (credits_in amount i))) (act_is_apply b p o i named h)
    (rw (next_accepted b (Act p o i) h, subject_seen b p here (field i), unit_seen b p here (field i)) (set_view b p _ size t.low here ∙ rw (apart.0, apart.1)))

-- After a begin the source is seen as what transfer makes of it, with the destination's subject as to_subject. Premises: as of act-seen.
pub begin_seen : (b : Book) (f g t : ℕ) (i : List ℕ) → length b.places ≡ 16 → Named b f → answer b (Begin f g t i) ≡ Ok tt
    → SeenAs (balance_next amount_in ((seen b).place f) (sent_to (seen b) g i) 15) ((seen b).place f).at (sent_to (seen b) g i) ((seen (next b (Begin f g t i))).place f)
begin_seen b f g t i size named h =
    let k : Begins (seen b) f g t i = begins (seen b) f g t i (accepted_tests b (Begin f g t i) h).1 in
    let here = open_there b f k.from_here in
    seen_as _ _ _ _ (State subject) (State unit) (whole_amount (held_at b f - credits_in amount i)) (begin_is_apply b f g t i named h)
    (rw (next_accepted b (Begin f g t i) h, transfer_unseen (set_credits b f (held_at b f - credits_in amount i)) t 1 _ f, subject_seen b f here (sent_to (seen b) g i), unit_seen b f here (sent_to (seen b) g i)) (set_view b f _ size k.low_from here))

-- After a finish or a cancel the end where the credits land is seen as what credit makes of both, by an input whose to_subject is that end's
-- subject and whose amount is the transfer's. Premises: as of act-seen, of that end; `opened` of 16 bits.
pub end_seen : (b : Book) (t : ℕ) (back : Bool) (inp : ℕ → Field) → length b.places ≡ 16 → b.opened < 2 ^ 16 → Named b (end b t back) → answer b (ending t back) ≡ Ok tt
    → inp to_subject ≡ text (name_bytes (place_record b (end b t back)).subject) → amount_in amount (inp amount) ≡ Ok (transfer_record b t).amount
    → SeenAs (credit_by amount_in ((seen b).place (end b t (not back))) ((seen b).place (end b t back)) inp 15) ((seen b).place (end b t (not back))).at inp
    ((seen (next b (ending t back))).place (end b t back))
unfolding bytes_of
end_seen b t back inp size few named h its_subject its-amount =
    let d : Ended b t back = ended b t back h in
    let p : ℕ = end b t back in
    let n : ℕ = held_at b p + credits (transfer_record b t).amount in
    seen_as _ _ _ _ (Input to_subject) (State unit) (whole_amount n) (end_is_credit b t back inp few named h its_subject its-amount)
    (rw (d.left, transfer_unseen (set_credits b p n) t 0 _ p, its_subject, unit_seen b (end b t (not back)) (d.here (not back)) inp) (set_view b p _ size (open_lt b few p (d.here back)) (d.here back)))
