use Rattle.amount.proofs.Scaling.{nine_fit}
use Rattle.amount.proofs.Reading.{read_empty, read_long, first_none, first_some, next_none, next_large, next_some, word_small, finish}
use Rattle.std.proofs.Common.{◌≤◌, length, sym, refl, ◌∙◌, lt_trans, eqb-true, arith, rules}
use borrow.Author.Tests.{eqb-false}
use Rattle.amount.proofs.Amount.try_from_str.Goals.{In-Some-part, then-is_empty-via-then-is_empty, then-is_empty-via-else-is_empty+then-text-gt-MAX_MANTISSA_DIGITS}
use Rattle.amount.proofs.Amount.try_from_str.Goals as goal

pub returns-then-is_empty : goal.returns-then-is_empty
returns-then-is_empty c =
    elim c.then-is_empty.branch [
      | then-is_empty-via-then-is_empty w ↦ read_empty _ (eqb-true _ _ (sym c.is_empty.ensures ∙ w.if-is_empty.true))
      | then-is_empty-via-else-is_empty+then-text-gt-MAX_MANTISSA_DIGITS w ↦ read_long _ w.if-text-gt-MAX_MANTISSA_DIGITS.true
    ]

pub returns-in_default : goal.returns-in_default
returns-in_default c = first_none _ _ _ c.split_at.ensures.by_index.0 (sym c.in_default.is ∙ c.word_of.ensures)

pub loop-part-init : goal.loop-part-init
loop-part-init c =
    rw (c.into_iter-part-iterator.ensures.into_iter_gives, c.chunks-part-items.ensures.rest, c.chunks-part-items.ensures.size)
    (first_some _ _ _ c.split_at.ensures.by_index.0 _ (search rules) (sym c.in-Some.is ∙ c.word_of.ensures), refl)

-- a part has at most nine digits
part-short : (c : In-Some-part) → length c.in-Some-part.part.now ≤ 9
part-short c = omega (arith, c.in-Some-part.ensures.steps.1.1, c.loop-part.invariant.1)

pub returns-in_default-word_of : goal.returns-in_default-word_of
returns-in_default-word_of c = next_none c.loop-part.invariant.0 _ _ c.in-Some-part.ensures.steps.1.0 (sym c.in_default-word_of.is ∙ c.word_of-in-loop-part.ensures)

pub overflow_cast-word : goal.overflow_cast-word
overflow_cast-word c =
    record { fits = lt_trans (word_small _ _ (sym c.in-Some-word_of.is ∙ c.word_of-in-loop-part.ensures)) (nine_fit _ (part-short (goal.at.overflow_cast-word c).In-Some-part)) }

pub returns-in_default-mul_add : goal.returns-in_default-mul_add
returns-in_default-mul_add c =
    let e = sym c.in_default-mul_add.is ∙ c.mul_add.ensures in
    next_large c.loop-part.invariant.0 _ _ c.in-Some-part.ensures.steps.1.0 _ (sym c.in-Some-word_of.is ∙ c.word_of-in-loop-part.ensures) (rw c.power_of_ten-power.ensures at e)

pub loop-part-preserved : goal.loop-part-preserved
loop-part-preserved c =
    let e = sym c.in-Some-mul_add.is ∙ c.mul_add.ensures in (
      next_some c.loop-part.invariant.0 _ _ c.in-Some-part.ensures.steps.1.0 _ (sym c.in-Some-word_of.is ∙ c.word_of-in-loop-part.ensures) _ (rw c.power_of_ten-power.ensures at e),
      c.in-Some-part.ensures.steps.0 ∙ c.loop-part.invariant.1,
    )

pub returns : goal.returns
returns c = finish _ c.in-None.ensures.steps.1.0 c.loop-part.invariant.0 (omega (arith, eqb-false (length c.args.text.now) 0 (sym c.is_empty.ensures ∙ c.if-is_empty.false))) (omega arith)
