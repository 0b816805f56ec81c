use Rattle.amount.proofs.Halves.{division_is, division_halves, division_low}
use Rattle.std.proofs.Common.{◌%◌, sym, div-add-mod', div-le_self, arith}
use Rattle.amount.proofs.uint128.div_rem.Goals as goal

pub returns-then-n-eq0 : goal.returns-then-n-eq0
returns-then-n-eq0 c =
    division_low c.args.n c.args.divisor c.if-n-eq0.true (omega (arith, div-le_self c.args.n.lo c.args.divisor)) (omega arith)

pub returns : goal.returns
returns c =
    division_is _ _ _ c.args.divisor c.divide_word-low.ensures.2 c.divide_word-low.ensures.1 (division_halves _ c.args.n (c.args.n.hi % c.args.divisor) _ c.args.divisor (sym (div-add-mod' c.args.n.hi c.args.divisor)) c.divide_word-low.ensures.0)
