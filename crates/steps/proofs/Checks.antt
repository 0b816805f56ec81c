-- The balance profile's check at an open place of the book, test by test, as the code goes through it: who authorized it, the amount, 14, 15.
use mathlib.Core.Path.{◌≡◌, refl, sym, ap, ◌∙◌}
use mathlib.Core.Logic.{◌≢◌}
use mathlib.Core.Bool.{Bool, true, false, cond}
use mathlib.Core.List.{List, [], ◌∷◌}
use Prim.Native.Nat.{ℕ, ◌<◌, ◌≤◌}
use native.Mathlib.Omega.{arith}
use lib.Dec.{eqb}
use lib.ListN.{length}
use borrow.Author.Tests.{eq-eqb}
use Rattle.amount.specs.Numbers.{val, halves}
use Rattle.amount.specs.declared.Amount.{Amount}
use Rattle.amount.specs.declared.uint128.Uint128.{Uint128}
use Rattle.sheet.specs.Fields.{Field, text, field, subject, unit, balance, amount, to_subject}
use Rattle.registry.specs.Readers.{text_in, amount_in, amount_of, readable, on_amount, read_amount}
use Rattle.registry.specs.Tests.{◌then◌, state_absent, state_there, above_zero, held_by, first, born}
use Rattle.registry.specs.Refusals.{Outcome, Reading}
use Rattle.registry.specs.declared.error.ProfileError.{ProfileError}
use Rattle.registry.specs.declared.error.ProfileError.TheVariants.{Empty, NonPositiveAmount, InsufficientQuantity}
use Rattle.registry.proofs.Tests.{then_end, among_each}
use Rattle.profiles.specs.Balance.{balance_rules, debited}
use Rattle.book.specs.Sets.{has}
use Rattle.book.specs.Places.{place_view, put_field}
use Rattle.book.specs.Book.{credits, whole_amount, name_bytes, place_record}
use Rattle.book.specs.Steps.{credits_in, adds, acts, Doing, Issuing, Taking, Reserving, Releasing, doing, said, check_at, sent_to, seen}
use Rattle.book.specs.declared.Book.{Book}
use Rattle.book.specs.declared.error.BookError.TheVariants.{Profile}
use Rattle.book.proofs.Accepted.{fact_held, held_short}
use Rattle.book.proofs.Asking.{begin_debits}
use Rattle.book.proofs.Effects.{asked_whole}
use Rattle.steps.specs.Turn.{whole_of, in_code, doing_of, authorized, authorizing}
use Rattle.steps.specs.declared.act.Doing.{Doing as CodeDoing}
use Rattle.steps.specs.declared.act.Doing.TheVariants as Does
use Rattle.steps.proofs.Tested.{Here, place_open, check_at_lem, create_at}
use Rattle.std.specs.Prelude.{Some, None, Ok, Err}

-- ---- 14, by the code's test of the mantissa

module _ (m : Uint128) (t : Bool) (e : t ≡ eqb (val m) 0) where
  pub not_positive : t ≡ true → above_zero (whole_of m) ≡ Err NonPositiveAmount
  unfolding above_zero
  not_positive h = rw (← e, h)

  pub is_positive : t ≡ false → above_zero (whole_of m) ≡ Ok tt
  unfolding above_zero
  is_positive h = rw (← e, h)

-- ---- what a sheet asks

-- an amount that is asked for is whole
module _ (name : ℕ) (i : List ℕ) (a : Amount) (h : amount_in name (field i name) ≡ Ok a) where
  pub is_whole : a ≡ whole_amount (credits_in name i)
  is_whole = sym (ap read_amount h) ∙ asked_whole name i

  pub asks_for : amount_in name (field i name) ≡ Ok (whole_amount (credits_in name i))
  asks_for = h ∙ ap Ok is_whole

  pub asks_number : a.mantissa ≡ halves (credits_in name i)
  asks_number = ap (λ (z : Amount). z.mantissa) is_whole

-- ---- what an operation of act does, by what the code found

pub doing_found : (o : ℕ) {d : CodeDoing} → doing_of o ≡ Some d → (acts o ≡ true) × (d ≡ in_code (doing o))
unfolding doing_of
doing_found o {d} h = go (acts o) refl
  where
    go : (t : Bool) → acts o ≡ t → (acts o ≡ true) × (d ≡ in_code (doing o))
    go true e = let k : Some (in_code (doing o)) ≡ Some d = rw e at h in (e, cc)
    go false e = let k : None ≡ Some d = rw e at h in let z : ◌≡◌ {A = ℕ} 0 1 = cc in absurd (omega arith)

pub doing_unfound : (o : ℕ) → doing_of o ≡ None → acts o ≡ false
unfolding doing_of
doing_unfound o h = go (acts o) refl
  where
    go : (t : Bool) → acts o ≡ t → acts o ≡ false
    go true e = let k : Some (in_code (doing o)) ≡ None = rw e at h in let z : ◌≡◌ {A = ℕ} 0 1 = cc in absurd (omega arith)
    go false e = e

abbrev out_of_code : CodeDoing → Doing
out_of_code Does.Issuing = Issuing
out_of_code Does.Taking = Taking
out_of_code Does.Reserving = Reserving
out_of_code Does.Releasing = Releasing

and_back : (k : Doing) → out_of_code (in_code k) ≡ k
and_back Issuing = refl
and_back Taking = refl
and_back Reserving = refl
and_back Releasing = refl

-- the arm that was taken says what the operation does
pub does_so : (o : ℕ) (k : Doing) {d : CodeDoing} → d ≡ in_code (doing o) → d ≡ in_code k → doing o ≡ k
does_so o k e f = sym (and_back (doing o)) ∙ ap out_of_code (sym e ∙ f) ∙ and_back k

-- ---- the check

-- the amount: 7, 10, 11; 14; and 15 of what takes
abbrev pub amounts : Bool → Amount → Reading → Outcome
amounts up held r = readable r then on_amount r above_zero then cond up (Ok tt) (on_amount r (held_by held))

module _ (s u : List ℕ) (held : Amount) (inp : ℕ → Field) where
  Ruled : ℕ → Type 0
  Ruled o = balance_rules amount_in (place_view s u held) inp o ≡ (authorizing o inp then amounts (adds o) held (amount_in amount (inp amount)))

  pub act_rules : (o : ℕ) → acts o ≡ true → balance_rules amount_in (place_view s u held) inp o
      ≡ (authorizing o inp then amounts (adds o) held (amount_in amount (inp amount)))
  unfolding Ruled acts adds authorized balance_rules state_there amount_of
  act_rules o k =
      among_each Ruled (12 ∷ 13 ∷ 14 ∷ 16 ∷ 17 ∷ 18 ∷ 19 ∷ [])
      (rw then_end, (rw then_end, (rw then_end, (rw then_end, (rw then_end, (rw then_end, (rw then_end, tt))))))) o k

  -- debit's list is its amount, 14 and 15
  debit_amounts : amounts false held (amount_in amount (inp amount)) ≡ first amount_in (place_view s u held) inp (born ∷ debited)
  unfolding state_there amount_of
  debit_amounts = rw then_end

module _ (up : Bool) (held : Amount) (r : Reading) where
  pub amounts_failed : (e : ProfileError) → r ≡ Err e → amounts up held r ≡ Err e
  amounts_failed e h = rw h

  module _ (n : ℕ) (h : r ≡ Ok (whole_amount n)) where
    pub amounts_nothing : (e : ProfileError) → above_zero (whole_amount n) ≡ Err e → amounts up held r ≡ Err e
    amounts_nothing e k = rw (h, k)

    module _ (k : above_zero (whole_amount n) ≡ Ok tt) where
      pub amounts_added : up ≡ true → amounts up held r ≡ Ok tt
      amounts_added e = rw (h, k, e)

      module _ (e : up ≡ false) (w : held.scale ≡ 0) where
        pub amounts_short : credits held < n → amounts up held r ≡ Err (InsufficientQuantity held (whole_amount n))
        amounts_short l = rw (h, k, e, held_short n held w l)

        pub amounts_taken : n ≤ credits held → amounts up held r ≡ Ok tt
        amounts_taken l = rw (h, k, e, fact_held n held w l)

-- ---- at an open place of the book

-- act: the tests of an operation of act
module _ (b : Book) (p o : ℕ) (i : List ℕ) (h : Here b p) (k : acts o ≡ true) where
  abbrev its_amounts : Outcome
  its_amounts = amounts (adds o) (place_record b p).balance (amount_in amount (field i amount))

  act_check : check_at (seen b) p (field i) o ≡ said (authorizing o (field i) then its_amounts)
  act_check =
      check_at_lem b p o (field i) h ∙ ap said (act_rules (name_bytes (place_record b p).subject) (name_bytes b.unit) (place_record b p).balance (field i) o k)

  pub act_unauthorized : (e : ProfileError) → authorizing o (field i) ≡ Err e → check_at (seen b) p (field i) o ≡ Err (Profile e)
  act_unauthorized e q = act_check ∙ ap (λ (x : Outcome). said (x then its_amounts)) q

  pub act_amounts : authorizing o (field i) ≡ Ok tt
      → check_at (seen b) p (field i) o ≡ said (amounts (adds o) (place_record b p).balance (amount_in amount (field i amount)))
  act_amounts q = act_check ∙ ap (λ (x : Outcome). said (x then its_amounts)) q

-- open: create's, at a closed place
module _ (b : Book) (p : ℕ) (i : List ℕ) (h : has b.opened p ≡ false) where
  open_check : check_at (seen b) p (field i) 11
      ≡ said (text_in subject (field i subject) then text_in unit (field i unit) then readable (amount_in balance (field i balance)))
  unfolding state_absent
  open_check = create_at b p i h ∙ rw then_end

  pub open_subjectless : (e : ProfileError) → text_in subject (field i subject) ≡ Err e → check_at (seen b) p (field i) 11 ≡ Err (Profile e)
  open_subjectless e q = open_check ∙ rw q

  module _ (s : text_in subject (field i subject) ≡ Ok tt) where
    pub open_unitless : (e : ProfileError) → text_in unit (field i unit) ≡ Err e → check_at (seen b) p (field i) 11 ≡ Err (Profile e)
    open_unitless e q = open_check ∙ rw (s, q)

    pub open_amount : text_in unit (field i unit) ≡ Ok tt → check_at (seen b) p (field i) 11 ≡ said (readable (amount_in balance (field i balance)))
    open_amount q = open_check ∙ rw (s, q)

-- begin: balance.transfer's, with the destination's subject as its to_subject
module _ (b : Book) (f g : ℕ) (i : List ℕ) (h : Here b f) (k : Here b g) where
  abbrev to_name : List ℕ
  to_name = name_bytes (place_record b g).subject

  abbrev from_held : Amount
  from_held = (place_record b f).balance

  sent : check_at (seen b) f (sent_to (seen b) g i) 15
      ≡ said (balance_rules amount_in (place_view (name_bytes (place_record b f).subject) (name_bytes b.unit) from_held) (put_field (field i) to_subject (text to_name)) 15)
  sent = check_at_lem b f 15 (sent_to (seen b) g i) h ∙ rw (place_open b g k)

  pub begin_nameless : length to_name ≡ 0 → check_at (seen b) f (sent_to (seen b) g i) 15 ≡ Err (Profile (Empty to_subject))
  unfolding balance_rules text_in state_there
  begin_nameless e = sent ∙ rw (eq-eqb (length to_name) 0 e)

  pub begin_check : length to_name ≢ 0 → check_at (seen b) f (sent_to (seen b) g i) 15 ≡ said (amounts false from_held (amount_in amount (field i amount)))
  unfolding balance_rules
  begin_check e =
      let s : List ℕ = name_bytes (place_record b f).subject in
      let u : List ℕ = name_bytes b.unit in
      sent ∙ ap said (begin_debits s u from_held (field i) amount_in to_name e ∙ sym (debit_amounts s u from_held (field i)))
