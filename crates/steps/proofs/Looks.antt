-- Where a step looks is on the book, and what is read there is what it looks at: for whoever keeps a book.
use mathlib.Core.Path.{◌≡◌, refl, ap, ◌∙◌}
use mathlib.Core.Bool.{Bool}
use Prim.Native.Nat.{ℕ, ◌<◌}
use native.Mathlib.Omega.{arith}
use lib.ListN.{length}
use Rattle.amount.specs.declared.uint128.Uint128.{Uint128}
use Rattle.std.specs.Prelude.{Option}
use Rattle.audit.specs.Totals.{total_of}
use Rattle.book.specs.Book.{name_bytes, place_record, transfer_record}
use Rattle.book.specs.declared.Book.{Book}
use Rattle.steps.specs.Turn.{transfer_of, place_of, destination_of, awaited_by, spot, Shows}
use Rattle.steps.specs.declared.step.Step.{Step}
use Rattle.steps.specs.declared.step.Step.TheVariants as Code
use Rattle.steps.specs.declared.step.View.{View}

pub transfer_low : (s : Step) {k : ℕ} → k ≡ transfer_of s → k < 8
transfer_low (Code.Open p) e = omega (arith, e)
transfer_low (Code.Act p o) e = omega (arith, e)
transfer_low (Code.Begin f g t) e = omega (arith, e)
transfer_low (Code.Finish t) e = omega (arith, e)
transfer_low (Code.Cancel t) e = omega (arith, e)
transfer_low (Code.Close p) e = omega (arith, e)

pub place_low : (s : Step) (from to : ℕ) {i : ℕ} → i ≡ place_of s from to → i < 16
place_low (Code.Open p) from to e = omega (arith, e)
place_low (Code.Act p o) from to e = omega (arith, e)
place_low (Code.Begin f g t) from to e = omega (arith, e)
place_low (Code.Finish t) from to e = omega (arith, e)
place_low (Code.Cancel t) from to e = omega (arith, e)
place_low (Code.Close p) from to e = omega (arith, e)

-- read at transfer k and place i, with m the length of the destination's subject, n the total, and a whether the place is awaited
abbrev pub seen_at : Book → (k i : ℕ) → Option Uint128 → (m : ℕ) → Bool → View
seen_at b k i n m a =
    record {
      held = (place_record b i).balance.mantissa;
      reserved = (place_record b i).reserved.mantissa;
      carried = (transfer_record b k).amount.mantissa;
      total = n;
      opened = b.opened;
      pending = b.pending;
      awaited = a;
      from = (transfer_record b k).from;
      to = (transfer_record b k).to;
      named = m;
    }

module _ (b : Book) (s : Step) {k i : ℕ} (at-k : k ≡ transfer_of s) (at_i : i ≡ place_of s (transfer_record b k).from (transfer_record b k).to) where
  pub at_spot : i ≡ spot b s
  at_spot = at_i ∙ ap (λ (j : ℕ). place_of s (transfer_record b j).from (transfer_record b j).to) at-k

  pub shows_at : {g : ℕ} → g ≡ destination_of s → (n : Option Uint128) (m : ℕ) (a : Bool) → m ≡ length (name_bytes (place_record b g).subject)
      → n ≡ total_of b → a ≡ awaited_by s b → Shows b s (seen_at b k i n m a)
  shows_at at_g n m a m-is n-is a-is =
      record {
        held = ap (λ (p : ℕ). (place_record b p).balance.mantissa) at_spot;
        reserved = ap (λ (p : ℕ). (place_record b p).reserved.mantissa) at_spot;
        carried = ap (λ (p : ℕ). (transfer_record b p).amount.mantissa) at-k;
        opened = refl;
        pending = refl;
        from = ap (λ (p : ℕ). (transfer_record b p).from) at-k;
        to = ap (λ (p : ℕ). (transfer_record b p).to) at-k;
        named = m-is ∙ ap (λ (p : ℕ). length (name_bytes (place_record b p).subject)) at_g;
        awaited = a-is;
        total = n-is;
      }
