-- The balance profile's rows at a place: what an accepted check says of the amount, and that a place which holds more accepts it too.
use mathlib.Core.Path.{◌≡◌, refl, ap, ◌∙◌}
use mathlib.Core.Bool.{Bool, true, false, cond, true≢false}
use mathlib.Core.List.{List, [], ◌∷◌}
use Prim.Native.Nat.{ℕ, ◌≤◌, ◌<◌}
use native.Mathlib.Nat.{le_trans}
use native.Mathlib.Omega.{arith}
use lib.Dec.{eqb}
use lib.ListN.{length}
use borrow.Author.Tests.{eqb-true, eqb-false}
use Rattle.amount.specs.declared.Amount.{Amount}
use Rattle.amount.proofs.Halves.{val_halves}
use Rattle.sheet.specs.Fields.{Field, absent, text, figure, other, field, Sight, subject, amount, to_subject, authorized_by}
use Rattle.registry.proofs.Tests.{refused_never, then_both, among_each}
use Rattle.registry.specs.Readers.{amount_in, amount_of, read_amount, text_in, bytes_of}
use Rattle.registry.specs.Tests.{state_there, state_absent, Test, first, born, in_text}
use Rattle.registry.specs.declared.error.ProfileError.TheVariants.{Empty}
use Rattle.registry.specs.Refusals.{Outcome}
use Rattle.profiles.specs.Balance.{balance_rules, debited, credited}
use Rattle.book.specs.Places.{place_view, closed_view}
use Rattle.book.proofs.Accepted.{Within, debit_accepted, debit_accepts, amount_in_whole}
use Rattle.book.specs.Book.{credits}
use Rattle.book.specs.Steps.{adds, acts, Doing, Issuing, Taking, Reserving, Releasing, doing, bytes_in}
use Rattle.std.specs.Prelude.{Ok, Err}

-- ---- create

text_there : (n : ℕ) (f : Field) → text_in n f ≡ Ok tt → 0 < length (bytes_of f)
unfolding text_in bytes_of
text_there n absent h = refused_never _ h
text_there n (text t) h = go (eqb (length t) 0) refl h
  where
    go : (x : Bool) → eqb (length t) 0 ≡ x → cond x (Err (Empty n)) (Ok (tt {0})) ≡ Ok tt → 0 < length t
    go true e k = refused_never (Empty n) k
    go false e k = let z = eqb-false (length t) 0 e in omega arith
text_there n (figure a) h = refused_never _ h
text_there n other h = refused_never _ h

-- an accepted create has a subject
pub create_subject : (i : List ℕ) → balance_rules amount_in closed_view (field i) 11 ≡ Ok tt → 0 < length (bytes_in subject i)
unfolding balance_rules state_absent bytes_in
create_subject i h = text_there subject (field i subject) (then_both (text_in subject (field i subject)) _ h).0

-- ---- the operations of act, and transfer

-- whether an operation adds, by what it does
abbrev pub rises : Doing → Bool
rises Issuing = true
rises Taking = false
rises Reserving = false
rises Releasing = true

reserve_subtracts : adds 16 ≡ false
unfolding adds
reserve_subtracts = refl

release_adds : adds 17 ≡ true
unfolding adds
release_adds = refl

pub adds_is : (o : ℕ) (k : Doing) → doing o ≡ k → adds o ≡ rises k
unfolding doing
adds_is o k e = go (eqb o 16) refl (eqb o 17) refl (adds o) refl
  where
    go : (x : Bool) → eqb o 16 ≡ x → (y : Bool) → eqb o 17 ≡ y → (z : Bool) → adds o ≡ z → adds o ≡ rises k
    go true x y y' z z' = ap adds (eqb-true o 16 x) ∙ reserve_subtracts ∙ ap rises (rw x at e)
    go false x true y z z' = ap adds (eqb-true o 17 y) ∙ release_adds ∙ ap rises (rw (x, y) at e)
    go false x false y true z = z ∙ ap rises (rw (x, y, z) at e)
    go false x false y false z = z ∙ ap rises (rw (x, y, z) at e)

-- what an accepted check says at a place whose balance is b, up: whether the operation adds, rule: its tests at a balance state
pub record Affords (b : Amount) (inp : ℕ → Field) (up : Bool) (rule : Sight → Outcome) : Type 0 where
  -- what it takes is held
  pub within : up ≡ false → credits (read_amount (amount_in amount (inp amount))) ≤ credits b
  -- a place that holds more accepts it too
  pub more : (s u : List ℕ) (c : Amount) → c.scale ≡ 0 → credits b ≤ credits c → rule (place_view s u c) ≡ Ok tt

module _ (s u : List ℕ) (b : Amount) (scaled : b.scale ≡ 0) (inp : ℕ → Field) where
  Row-affords : Bool → List Test → Type 0
  Row-affords up ts = first amount_in (place_view s u b) inp ts ≡ Ok tt → Affords b inp up (λ v. first amount_in v inp ts)

  -- 13 and 17: the balance isn't looked at
  adding : Row-affords true (born ∷ credited)
  unfolding Row-affords state_there amount_of
  adding h = record { within = λ e. absurd (true≢false e); more = λ s' u' c e k. h }

  -- 12
  minting : Row-affords true (born ∷ in_text authorized_by ∷ credited)
  unfolding Row-affords state_there amount_of
  minting h = record { within = λ e. absurd (true≢false e); more = λ s' u' c e k. h }

  -- 14, 16 and 18
  taking : Row-affords false (born ∷ debited)
  unfolding Row-affords
  taking h =
      let w : Within amount_in (inp amount) b = debit_accepted amount_in amount_in_whole s u b inp scaled h in
      let e : credits (read_amount (amount_in amount (inp amount))) ≡ w.some.asked.number =
      rw w.some.asked.given (val_halves w.some.asked.number) in
      record {
        within = λ _. rw e w.within;
        more = λ s' u' c z k.
            debit_accepts amount_in amount_in_whole s' u' c inp z (record { some = w.some; within = le_trans w.within k });
      }

  -- 15 and 19: an input text first
  taking_with : (n : ℕ) → Row-affords false (born ∷ in_text n ∷ debited)
  unfolding Row-affords state_there
  taking_with n h =
      let t = then_both (text_in n (inp n)) (first amount_in (place_view s u b) inp debited) h in
      let a : Affords b inp false (λ v. first amount_in v inp (born ∷ debited)) = taking t.1 in
      record { within = a.within; more = λ s' u' c z k. rw t.0 (a.more s' u' c z k) }

  Operation-affords : ℕ → Type 0
  Operation-affords o = balance_rules amount_in (place_view s u b) inp o ≡ Ok tt → Affords b inp (adds o) (λ v. balance_rules amount_in v inp o)

  pub act_affords : (o : ℕ) → acts o ≡ true → balance_rules amount_in (place_view s u b) inp o ≡ Ok tt
      → Affords b inp (adds o) (λ v. balance_rules amount_in v inp o)
  unfolding Operation-affords Row-affords acts adds balance_rules
  act_affords o k =
      among_each Operation-affords (12 ∷ 13 ∷ 14 ∷ 16 ∷ 17 ∷ 18 ∷ 19 ∷ [])
      (minting, (adding, (taking, (taking, (adding, (taking, (taking_with authorized_by, tt))))))) o k

  pub transfer_affords : balance_rules amount_in (place_view s u b) inp 15 ≡ Ok tt → Affords b inp false (λ v. balance_rules amount_in v inp 15)
  unfolding Row-affords balance_rules
  transfer_affords = taking_with to_subject
