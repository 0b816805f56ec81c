use borrow.Author.Rules.{rules}
use mathlib.Core.Path.{refl}
use Rattle.report.specs.Listing.{bad_text}
use Rattle.report.proofs.Putting.{◌then◌, buffer_after, length_after}
use Rattle.report.proofs.Fitting.{bad_text_lem, good_text}
use Rattle.report.proofs.lines.put_listing.Goals as goal

pub returns-then-run-ne0 : goal.returns-then-run-ne0
unfolding bad_text
returns-then-run-ne0 c =
    let is = bad_text_lem _ c.if-run-ne0.true in
    record {
      bytes = buffer_after is refl c.put.ensures (search rules);
      behind = length_after is refl c.put.ensures;
      within = search rules;
    }

pub returns : goal.returns
returns c =
    let is = good_text _ c.if-run-ne0.false in
    let all = c.put_steps.ensures then c.put_places.ensures then c.put_last.ensures in
    record {
      bytes = buffer_after is refl all (search rules);
      behind = length_after is refl all;
      within = search rules;
    }
