use Rattle.std.proofs.Common.{ℕ, eqb, sym, ap, ◌∙◌, le-ltb, rules}
use Rattle.book.proofs.Tables.{bit_high}
use Rattle.audit.proofs.BitCode.{bit_found}
use Rattle.audit.proofs.sets.has.Goals as goal

pub returns-then-p-lt16 : goal.returns-then-p-lt16
returns-then-p-lt16 c = bit_found c.args.set c.args.p

pub returns-else-p-lt16 : goal.returns-else-p-lt16
returns-else-p-lt16 c = le-ltb c.args.p 16 c.if-p-lt16.false ∙ ap (λ (n : ℕ). eqb n 1) (sym (bit_high 16 c.args.set c.args.p (search rules) c.if-p-lt16.false))
