use Rattle.amount.specs.Amounts.{compare_of, lesser_by, min_of}
use Rattle.amount.specs.declared.Amount.{Amount}
use Rattle.std.specs.Ordering.{is_lt}
use Rattle.std.specs.declared.cmp.Ordering.{Ordering}
use Rattle.std.specs.declared.cmp.Ordering.TheVariants.{Less, Equal, Greater}
use Rattle.std.proofs.Common.{◌≡◌, true, false, sym, refl, ◌∙◌}
use Rattle.amount.proofs.Amount.min.Goals as goal

first : (o : Ordering) (a b : Amount) → is_lt o ≡ true → a ≡ lesser_by o a b
first Less a b h = refl
first Equal a b h = cc
first Greater a b h = cc

second : (o : Ordering) (a b : Amount) → is_lt o ≡ false → b ≡ lesser_by o a b
second Less a b h = cc
second Equal a b h = refl
second Greater a b h = refl

pub returns-then-lt : goal.returns-then-lt
unfolding min_of
returns-then-lt c = first (compare_of c.args.self c.args.other) _ _ (sym c.lt.ensures ∙ c.if-lt.true)

pub returns-else-lt : goal.returns-else-lt
unfolding min_of
returns-else-lt c = second (compare_of c.args.self c.args.other) _ _ (sym c.lt.ensures ∙ c.if-lt.false)
