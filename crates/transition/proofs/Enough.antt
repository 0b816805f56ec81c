-- The largest sheet: what apply and credit write has at most 548 bytes, so that a buffer of 548 is always enough.
use mathlib.Core.Path.{◌≡◌, refl}
use mathlib.Core.List.{List}
use Prim.Native.Nat.{ℕ, ◌≤◌}
use native.Mathlib.Nat.{le_trans}
use lib.ListN.{length, replicate}
use borrow.Author.Tests.{le-leb}
use Rattle.sheet.specs.Fields.{field}
use Rattle.writer.specs.Encode.{put_answer, encode, stack_sheet}
use Rattle.registry.specs.Refusals.{zero_amount}
use Rattle.resource_state.specs.Next.{sheet_of}
use Rattle.resource_state.specs.Apply.{next_of}
use Rattle.resource_state.specs.declared.ResourceState.{ResourceState}
use Rattle.transition.specs.Credit.{credit_of}
use Rattle.transition.specs.Written.{answer_to}
use Rattle.transition.specs.Helpers.{ShortTexts}
use Rattle.transition.proofs.Lengths.{next_is_short, credit_is_short, sheet_fits}
use Rattle.std.proofs.lemmas.Result.{IfOk-at_ok}
use Rattle.std.specs.Prelude.{Ok}

-- a call that makes a state was lent sound sheets
module _ (s i : List ℕ) (n : ResourceState) where
  apply_short : (p op : ℕ) → next_of p op s i ≡ Ok n → ShortTexts s × ShortTexts i
  apply_short p op h = IfOk-at_ok (λ _. ShortTexts s × ShortTexts i) h (next_is_short p op s i)

  credit_short : (op : ℕ) (d : List ℕ) → credit_of op s d i ≡ Ok n → ShortTexts s × ShortTexts i
  credit_short op d h = IfOk-at_ok (λ _. ShortTexts s × ShortTexts i) h (credit_is_short op s d i)

  made_written : ShortTexts s × ShortTexts i → (old : List ℕ) → 548 ≤ length old → (answer_to (Ok n) s i old).number ≡ 0
  unfolding answer_to put_answer
  made_written short old wide =
      rw (le-leb (length (sheet_of (field s) (field i) n)) (length old) (le_trans (sheet_fits s i n short.0 short.1) wide))

  pub apply_largest : (p op : ℕ) → next_of p op s i ≡ Ok n → length (sheet_of (field s) (field i) n) ≤ 548
  apply_largest p op h = let short = apply_short p op h in sheet_fits s i n short.0 short.1

  pub credit_largest : (op : ℕ) (d : List ℕ) → credit_of op s d i ≡ Ok n → length (sheet_of (field s) (field i) n) ≤ 548
  credit_largest op d h = let short = credit_short op d h in sheet_fits s i n short.0 short.1

  -- where a state is made, 20 does not arise
  pub apply_enough : (p op : ℕ) → next_of p op s i ≡ Ok n → (old : List ℕ) → 548 ≤ length old → (answer_to (next_of p op s i) s i old).number ≡ 0
  apply_enough p op h old wide = rw h (made_written (apply_short p op h) old wide)

  pub credit_enough : (op : ℕ) (d : List ℕ) → credit_of op s d i ≡ Ok n → (old : List ℕ) → 548 ≤ length old
      → (answer_to (credit_of op s d i) s i old).number ≡ 0
  credit_enough op d h old wide = rw h (made_written (credit_short op d h) old wide)

-- and 547 bytes are not: two texts of 256 bytes
pub largest_is_reached : length (stack_sheet (replicate 256 65) (replicate 256 65) zero_amount) ≡ 548
unfolding stack_sheet encode
largest_is_reached = refl
