use mathlib.Core.Path.{ap}
use Rattle.amount.specs.Canonical.{canonical_text}
use Rattle.amount.specs.declared.uint128.Uint128.{Uint128}
use Rattle.report.specs.Listing.{last_line}
use Rattle.report.proofs.Putting.{◌then◌, as_text_lem}
use Rattle.report.proofs.page.Page.put_last.Goals as goal

pub returns : goal.returns
unfolding last_line
returns c =
    let is = c.book_total-mantissa.ensures c.requires.whole in
    c.put_counts.ensures
    then c.put.ensures
    then as_text_lem (ap (λ (m : Uint128). canonical_text (record { mantissa = m; scale = 0 })) is) c.put_amount.ensures
    then c.put-2.ensures
