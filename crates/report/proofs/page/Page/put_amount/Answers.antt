use mathlib.Core.Path.{◌∙◌}
use native.Mathlib.Omega.{arith}
use Rattle.report.proofs.Putting.{at_most}
use Rattle.report.proofs.Digits.{few_bytes, first_bytes}
use Rattle.report.proofs.page.Page.put_amount.Goals as goal

pub put-requires : goal.put-requires
put-requires c =
    let text = c.as_bytes.ensures ∙ first_bytes _ _ c.to_canonical_string.ensures in
    rw text (omega (arith, c.requires.room, few_bytes c.args.a c.requires.whole))

pub returns : goal.returns
returns c =
    let text = c.as_bytes.ensures ∙ first_bytes _ _ c.to_canonical_string.ensures in
    at_most (few_bytes c.args.a c.requires.whole) (rw text at c.put.ensures)
