-- What an accepted step passed, by name: the facts of each kind of step. And tests that follow from others, one by one: the plain
-- book's from the book's.
use mathlib.Core.Path.{◌≡◌, refl, ap}
use mathlib.Core.Logic.{◌≢◌}
use mathlib.Core.Bool.{Bool, true, false, not, ◌&&◌, ◌||◌, true≢false}
use mathlib.Core.List.{List, [], ◌∷◌}
use Prim.Native.Nat.{ℕ, ◌+◌, ◌≤◌, ◌<◌}
use lib.Dec.{eqb, leb, ltb}
use lib.ListN.{length}
use borrow.Author.Tests.{leb-false, lt-leb, ltb-false, eqb-false, eq-eqb, eqb-true, not-false}
use Rattle.amount.specs.Numbers.{limit}
use Rattle.sheet.specs.Fields.{field, subject, unit, balance, amount}
use Rattle.registry.proofs.Tests.{refused_never}
use Rattle.registry.specs.Readers.{amount_in}
use Rattle.registry.specs.Refusals.{Outcome}
use Rattle.registry.specs.declared.error.ProfileError.TheVariants.{UnknownOperation, Born, Unborn}
use Rattle.profiles.specs.Balance.{balance_rules}
use Rattle.book.specs.Book.{is_well_formed}
use Rattle.book.specs.Steps.{credits_in, bytes_in, doing, acts, refused_if, said, first_refusal, same_bytes, Seen, after_check, sheet_sound, sent_to, tests_open, tests_act, tests_begin, tests_finish, tests_close, Step, tests_of, seen, answer}
use Rattle.book.specs.declared.Book.{Book}
use Rattle.book.specs.declared.error.BookError.{BookError}
use Rattle.book.specs.declared.error.BookError.TheVariants.{Profile, UnderWay, OffTheBook, Idle, Itself, TooMuch, OtherUnit, LongName, BadBook, NotEmpty, Awaited}
use Rattle.book.specs.Refusals.{BookOutcome}
use Rattle.std.specs.Prelude.{Ok, Err}

-- ---- tests that were passed

abbrev pub Passed : List BookOutcome → Type 0
Passed [] = Unit {0}
Passed (t ∷ ts) = (t ≡ Ok tt) × Passed ts

pub passed : (ts : List BookOutcome) → first_refusal ts ≡ Ok tt → Passed ts
passed [] h = tt
passed (Ok _ ∷ ts) h = (refl, passed ts h)
passed (Err e ∷ ts) h = refused_never e h

pub pass : (ts : List BookOutcome) → Passed ts → first_refusal ts ≡ Ok tt
pass [] h = refl
pass (Ok _ ∷ ts) h = pass ts h.1
pass (Err e ∷ ts) h = refused_never e h.0

-- each of the tests us is passed if its neighbour of ts is
abbrev pub Follow : List BookOutcome → List BookOutcome → Type 0
Follow [] [] = Unit {0}
Follow [] (u ∷ us) = ⊥
Follow (t ∷ ts) [] = Unit {0}
Follow (t ∷ ts) (u ∷ us) = (t ≡ Ok tt → u ≡ Ok tt) × Follow ts us

pub follow : (ts us : List BookOutcome) → Follow ts us → first_refusal ts ≡ Ok tt → first_refusal us ≡ Ok tt
follow [] [] f h = refl
follow [] (u ∷ us) f h = absurd f
follow (t ∷ ts) [] f h = refl
follow (Err e ∷ ts) (u ∷ us) f h = refused_never e h
follow (Ok _ ∷ ts) (u ∷ us) f h = go u (f.0 refl) (follow ts us f.1 h)
  where
    go : (x : BookOutcome) → x ≡ Ok tt → first_refusal us ≡ Ok tt → first_refusal (x ∷ us) ≡ Ok tt
    go (Ok _) e k = k
    go (Err r) e k = refused_never r e

pub same : {t : BookOutcome} → t ≡ Ok tt → t ≡ Ok tt
same h = h

pub unmet : (t : Bool) (e : BookError) → refused_if t e ≡ Ok tt → t ≡ false
unmet true e h = refused_never e h
unmet false e h = refl

pub met_not : (t : Bool) (e : BookError) → t ≡ false → refused_if t e ≡ Ok tt
met_not t e h = rw h

said_so : (o : Outcome) → said o ≡ Ok tt → o ≡ Ok tt
said_so (Ok _) h = refl
said_so (Err e) h = refused_never (Profile e) h

pub or_l : (s t : Bool) → s || t ≡ false → s ≡ false
or_l true t h = h
or_l false t h = refl

pub or_r : (s t : Bool) → s || t ≡ false → t ≡ false
or_r true t h = absurd (true≢false h)
or_r false t h = h

both_l : (s t : Bool) → not (s && t) ≡ false → s ≡ true
both_l true t h = refl
both_l false t h = absurd (true≢false h)

both_r : (s t : Bool) → not (s && t) ≡ false → t ≡ true
both_r true t h = not-false t h
both_r false t h = absurd (true≢false h)

-- 28 and the rest
pub accepted_tests : (b : Book) (s : Step) → answer b s ≡ Ok tt → (is_well_formed b ≡ true) × (first_refusal (tests_of (seen b) s) ≡ Ok tt)
unfolding answer
accepted_tests b s h = go (is_well_formed b) refl h
  where
    go : (w : Bool) → is_well_formed b ≡ w → first_refusal (refused_if (not w) BadBook ∷ tests_of (seen b) s) ≡ Ok tt
        → (is_well_formed b ≡ true) × (first_refusal (tests_of (seen b) s) ≡ Ok tt)
    go true e k = (e, k)
    go false e k = refused_never BadBook k

-- ---- open

pub record Opens (s : Seen) (p : ℕ) (i : List ℕ) : Type 0 where
  pub low : p < 16
  pub closed : (s.place p).there ≡ false
  pub sheet : sheet_sound i ≡ Ok tt
  pub check : balance_rules amount_in (s.place p) (field i) 11 ≡ Ok tt
  pub same_unit : same_bytes s.unit (bytes_in unit i) ≡ true
  pub short : length (bytes_in subject i) ≤ 32
  pub room : s.total + credits_in balance i < limit

module _ (s : Seen) (p : ℕ) (i : List ℕ) where
  pub opens : first_refusal (tests_open s p i) ≡ Ok tt → Opens s p i
  unfolding tests_open
  opens h =
      let t = passed (tests_open s p i) h in
      record {
        low = leb-false 16 p (unmet (leb 16 p) OffTheBook t.0);
        closed = unmet (s.place p).there (Profile Born) t.1.0;
        sheet = t.1.1.0;
        check = said_so (balance_rules amount_in (s.place p) (field i) 11) t.1.1.1.0;
        same_unit = not-false (same_bytes s.unit (bytes_in unit i)) (unmet (not (same_bytes s.unit (bytes_in unit i))) OtherUnit t.1.1.1.1.0);
        short = ltb-false 32 (length (bytes_in subject i)) (unmet (ltb 32 (length (bytes_in subject i))) (LongName subject) t.1.1.1.1.1.0);
        room = leb-false limit (s.total + credits_in balance i) (unmet (leb limit (s.total + credits_in balance i)) TooMuch t.1.1.1.1.1.1.0);
      }

-- ---- act

pub record Acts (s : Seen) (p o : ℕ) (i : List ℕ) : Type 0 where
  pub low : p < 16
  pub here : (s.place p).there ≡ true
  pub sheet : sheet_sound i ≡ Ok tt
  pub operation : acts o ≡ true
  pub check : balance_rules amount_in (s.place p) (field i) o ≡ Ok tt
  pub after_check_lem : after_check (doing o) s p (credits_in amount i) ≡ Ok tt

module _ (s : Seen) (p o : ℕ) (i : List ℕ) where
  pub acts_so : first_refusal (tests_act s p o i) ≡ Ok tt → Acts s p o i
  unfolding tests_act
  acts_so h =
      let t = passed (tests_act s p o i) h in
      record {
        low = leb-false 16 p (unmet (leb 16 p) OffTheBook t.0);
        here = not-false (s.place p).there (unmet (not (s.place p).there) (Profile Unborn) t.1.0);
        sheet = t.1.1.0;
        operation = not-false (acts o) (unmet (not (acts o)) (Profile UnknownOperation) t.1.1.1.0);
        check = said_so (balance_rules amount_in (s.place p) (field i) o) t.1.1.1.1.0;
        after_check_lem = t.1.1.1.1.1.0;
      }

-- ---- begin

pub record Begins (s : Seen) (f g t : ℕ) (i : List ℕ) : Type 0 where
  pub low_from : f < 16
  pub low_to : g < 16
  pub low_number : t < 8
  pub apart : f ≢ g
  pub free : s.busy t ≡ false
  pub from_here : (s.place f).there ≡ true
  pub to_here : (s.place g).there ≡ true
  pub sheet : sheet_sound i ≡ Ok tt
  pub check : balance_rules amount_in (s.place f) (sent_to s g i) 15 ≡ Ok tt

module _ (s : Seen) (f g t : ℕ) (i : List ℕ) where
  pub begins : first_refusal (tests_begin s f g t i) ≡ Ok tt → Begins s f g t i
  unfolding tests_begin
  begins h =
      let z = passed (tests_begin s f g t i) h in
      let far = unmet (leb 16 f || leb 16 g || leb 8 t) OffTheBook z.0 in
      let here = unmet (not ((s.place f).there && (s.place g).there)) (Profile Unborn) z.1.1.1.0 in
      record {
        low_from = leb-false 16 f (or_l (leb 16 f) (leb 16 g) (or_l (leb 16 f || leb 16 g) (leb 8 t) far));
        low_to = leb-false 16 g (or_r (leb 16 f) (leb 16 g) (or_l (leb 16 f || leb 16 g) (leb 8 t) far));
        low_number = leb-false 8 t (or_r (leb 16 f || leb 16 g) (leb 8 t) far);
        apart = eqb-false f g (unmet (eqb f g) Itself z.1.0);
        free = unmet (s.busy t) UnderWay z.1.1.0;
        from_here = both_l (s.place f).there (s.place g).there here;
        to_here = both_r (s.place f).there (s.place g).there here;
        sheet = z.1.1.1.1.0;
        check = said_so (balance_rules amount_in (s.place f) (sent_to s g i) 15) z.1.1.1.1.1.0;
      }

-- ---- finish

pub record Finishes (s : Seen) (t : ℕ) : Type 0 where
  pub low : t < 8
  pub moving : s.busy t ≡ true

module _ (s : Seen) (t : ℕ) where
  pub finishes : first_refusal (tests_finish s t) ≡ Ok tt → Finishes s t
  unfolding tests_finish
  finishes h =
      let z = passed (tests_finish s t) h in
      record {
        low = leb-false 8 t (unmet (leb 8 t) OffTheBook z.0);
        moving = not-false (s.busy t) (unmet (not (s.busy t)) Idle z.1.0);
      }

  pub finished : Finishes s t → first_refusal (tests_finish s t) ≡ Ok tt
  unfolding tests_finish
  finished f =
      pass (tests_finish s t)
      (met_not (leb 8 t) OffTheBook (lt-leb 8 t f.low), (met_not (not (s.busy t)) Idle (ap not f.moving), tt))

-- ---- close

pub record Closes (s : Seen) (p : ℕ) : Type 0 where
  pub low : p < 16
  pub here : (s.place p).there ≡ true
  pub empty : s.held p + s.reserved p ≡ 0
  pub unawaited : s.awaited p ≡ false

module _ (s : Seen) (p : ℕ) where
  pub closes : first_refusal (tests_close s p) ≡ Ok tt → Closes s p
  unfolding tests_close
  closes h =
      let t = passed (tests_close s p) h in
      let all : ℕ = s.held p + s.reserved p in
      record {
        low = leb-false 16 p (unmet (leb 16 p) OffTheBook t.0);
        here = not-false (s.place p).there (unmet (not (s.place p).there) (Profile Unborn) t.1.0);
        empty = eqb-true all 0 (not-false (eqb all 0) (unmet (not (eqb all 0)) NotEmpty t.1.1.0));
        unawaited = unmet (s.awaited p) Awaited t.1.1.1.0;
      }

  -- 29 is not met
  pub emptied : s.held p + s.reserved p ≡ 0 → refused_if (not (eqb (s.held p + s.reserved p) 0)) NotEmpty ≡ Ok tt
  emptied h = met_not (not (eqb (s.held p + s.reserved p) 0)) NotEmpty (ap not (eq-eqb (s.held p + s.reserved p) 0 h))
