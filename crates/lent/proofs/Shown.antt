-- What a step reads of a lent book is what it looks at, what it stores there is the book after it, and the total that it leaves is that book's.
use mathlib.Core.Path.{◌≡◌, refl, sym, ap, ◌∙◌}
use mathlib.Core.Bool.{Bool, true}
use mathlib.Core.List.{List, [], ◌∷◌}
use Prim.Native.Nat.{ℕ, ◌+◌, ◌^◌, ◌<◌, ◌≤◌}
use native.Mathlib.Omega.{arith}
use lib.ListN.{length, set}
use Rattle.std.specs.Prelude.{Option, Some, Result, Ok, Err, IfOk}
use Rattle.amount.specs.Numbers.{halves}
use Rattle.amount.specs.declared.uint128.Uint128.{Uint128}
use Rattle.book.specs.Book.{name_bytes, place_record, transfer_record, total, is_well_formed}
use Rattle.book.specs.Claim.{issued, taken}
use Rattle.book.specs.Steps.{Step, answer, next, issues, takes}
use Rattle.book.specs.declared.Book.{Book}
use Rattle.book.specs.declared.Name.{Name}
use Rattle.book.specs.declared.error.BookError.{BookError}
use Rattle.book.proofs.Facts.{accepted_tests}
use Rattle.book.proofs.Formed.{formed}
use Rattle.book.proofs.Views.{Shape}
use Rattle.book.proofs.Steady.{step_steady}
use Rattle.audit.specs.Totals.{total_of}
use Rattle.steps.proofs.Looks.{seen_at, at_spot, shows_at}
use Rattle.steps.proofs.Turned.{place_back, transfer_back}
use Rattle.steps.specs.Turn.{with_sheet, transfer_of, place_of, destination_of, awaited_by, subject_after, outcome_of, stored_at, stored, Shows, Turned}
use Rattle.steps.specs.declared.step.Step.{Step as Kind}
use Rattle.steps.specs.declared.step.View.{View}

-- lengths and ranges, which every value of the type has
pub record Sized (b : Book) : Type 0 where
  pub places : length b.places ≡ 16
  pub transfers : length b.transfers ≡ 8
  pub opened : b.opened < 2 ^ 16
  pub pending : b.pending < 2 ^ 8

-- ---- what a step reads, at transfer k and place i, and what it stores there

module _ (b : Book) (s : Kind) {k i : ℕ} (e-k : k ≡ transfer_of s) (e-i : i ≡ place_of s (transfer_record b k).from (transfer_record b k).to) where
  pub shown : {j n : ℕ} {t : Option Uint128} {a : Bool} → j ≡ destination_of s → n ≡ length (name_bytes (place_record b j).subject) → t ≡ total_of b
      → a ≡ awaited_by s b → Shows b s (seen_at b k i t n a)
  shown {j} {n} {t} {a} e-j e-n e-t e-a = shows_at b s e-k e-i e-j t n a e-n e-t e-a

  pub stored_so : (l : List ℕ) (x : View) {u : Name} → u ≡ subject_after s (place_record b i).subject l → stored_at b i k u x ≡ stored b s l (Ok x)
  stored_so l x {u} e =
      λ a. stored_at b (at_spot b s e-k e-i a) (e-k a) ((e ∙ ap (λ (p : ℕ). subject_after s (place_record b p).subject l) (at_spot b s e-k e-i)) a) x

-- ---- the total after it

in_shape : (b : Book) → Sized b → is_well_formed b ≡ true → Shape b
unfolding place_record transfer_record
in_shape b z h =
    let f = formed b h in
    record {
      places = record { size = z.places; range = z.opened; wholes = f.whole_places };
      transfers = record { size = z.transfers; range = z.pending; wholes = f.whole_transfers };
    }

module _ (b : Book) (s : Kind) (l : List ℕ) where
  abbrev z : Step
  z = with_sheet s l

  total_after : Sized b → (x : View) → Turned b s l (Ok x) → x.total ≡ total_of (next b z)
  unfolding total_of
  total_after d x m =
      let yes· : answer b z ≡ Ok tt = sym m.answers in
      let sound = (accepted_tests b z yes·).0 in
      let steady = step_steady b z (record { shape = in_shape b d sound; formed = sound }) in
      let moved : total (next b z) + taken (z ∷ []) ≡ total b + issued (z ∷ []) = rw yes· at steady.moved in
      m.total x refl (total (next b z)) (omega (arith, moved)) ∙ rw steady.steady.formed

  -- a lent book h, and the total, after a step
  abbrev pub Done : Result (Option Uint128) BookError → Book → Type 0
  Done r h = (outcome_of r ≡ answer b z) × (h ≡ next b z) × IfOk r (λ n. n ≡ total_of h)

  pub done : Sized b → (x : View) → Turned b s l (Ok x) → {h : Book} → h ≡ stored b s l (Ok x) → Done (Ok x.total) h
  done d x m {h} e =
      let after : h ≡ next b z = e ∙ m.book in
      (m.answers, after, total_after d x m ∙ ap total_of (sym after))

  -- of a refused one nothing was stored, but what was lent is given back
  pub undone : {f : BookError} {r : Result (Option Uint128) BookError} → Turned b s l (Err f) → (i k : ℕ) → r ≡ Err f
      → Done r (record { unit = b.unit; opened = b.opened; pending = b.pending; places = set b.places i (place_record b i); transfers = set b.transfers k (transfer_record b k) })
  undone {f} {r} m i k e = rw (e, place_back b i, transfer_back b k) (m.answers, m.book, tt)
