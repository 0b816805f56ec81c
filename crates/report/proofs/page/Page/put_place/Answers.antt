use mathlib.Core.Path.{ap}
use Rattle.amount.specs.Canonical.{whole_text}
use Rattle.report.specs.Listing.{place_line}
use Rattle.report.proofs.Putting.{◌then◌, as_text_lem}
use Rattle.report.proofs.page.Page.put_place.Goals as goal

pub returns : goal.returns
unfolding place_line
returns c =
    c.put.ensures
    then as_text_lem (ap whole_text c.from.ensures) c.put_number.ensures
    then c.put-2.ensures
    then c.put_amount.ensures
    then c.put-3.ensures
    then c.put_amount-2.ensures
    then c.put-4.ensures
