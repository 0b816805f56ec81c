use borrow.Author.Rules.{rules}
use mathlib.Core.Path.{ap}
use Rattle.amount.specs.Canonical.{whole_text}
use Rattle.report.specs.Listing.{counts_text}
use Rattle.report.proofs.Putting.{◌then◌, as_text_lem}
use Rattle.report.proofs.Digits.{ones_members}
use Rattle.report.proofs.page.Page.put_counts.Goals as goal

pub returns : goal.returns
unfolding counts_text
returns c =
    c.put.ensures
    then as_text_lem (ap whole_text (ones_members 16 c.args.opened (search rules))) c.put_number.ensures
    then c.put-2.ensures
    then as_text_lem (ap whole_text (ones_members 8 c.args.pending (search rules))) c.put_number-2.ensures
