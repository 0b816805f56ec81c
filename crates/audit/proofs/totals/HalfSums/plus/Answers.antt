use Rattle.std.proofs.Common.{ap, ◌+◌, ℕ, arith}
use Rattle.audit.proofs.Sums.{added, at_most_one}
use Rattle.audit.proofs.totals.HalfSums.plus.Goals as goal

pub returns : goal.returns
returns c =
    let over = c.carrying_add-hi.ensures in
    let carry = c.carrying_add-lo.ensures in
    added _ _ _ _ _ (at_most_one c.carrying_add-lo.result.1) (at_most_one c.carrying_add-hi.result.1)
    (ap (λ (d : ℕ). c.args.self.above + d) c.from.ensures) (ap (λ (d : ℕ). c.args.self.carries + d) c.from-2.ensures)
    (omega (arith, over)) (omega (arith, carry))
