use mathlib.Core.Path.{ap}
use Rattle.amount.specs.Canonical.{whole_text}
use Rattle.report.specs.Listing.{step_line}
use Rattle.report.proofs.Putting.{◌then◌, as_text_lem}
use Rattle.report.proofs.page.Page.put_step.Goals as goal

pub returns : goal.returns
unfolding step_line
returns c =
    c.put_number.ensures
    then c.put.ensures
    then as_text_lem (ap whole_text c.from.ensures) c.put_number-2.ensures
    then c.put-2.ensures
    then as_text_lem (ap whole_text c.from-2.ensures) c.put_number-3.ensures
    then c.put-3.ensures
