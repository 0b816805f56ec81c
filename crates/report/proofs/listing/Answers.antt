use mathlib.Core.Path.{ap, ◌∙◌}
use native.Mathlib.Omega.{arith}
use Rattle.report.specs.Listing.{listing_of}
use Rattle.report.specs.Writing.{run_text}
use Rattle.report.proofs.Fitting.{run_text_lem, run_fits, too_short, all_fits}
use Rattle.report.proofs.listing.Goals as goal

pub put_listing-len-requires : goal.put_listing-len-requires
put_listing-len-requires c = rw c.run-run.ensures (run_fits _)

pub returns-then-out-len : goal.returns-then-out-len
returns-then-out-len c =
    let is = ap run_text c.run-run.ensures ∙ run_text_lem c.args.session.now in
    let behind = rw is at c.put_listing-len.ensures.behind in
    let l = too_short (listing_of c.args.session.now) c.args.out.now (omega (arith, behind)) in
    (l.0, l.1, omega (arith, behind, c.put_listing-len.ensures.within))

pub put_listing-requires : goal.put_listing-requires
put_listing-requires c = rw c.run-run.ensures (run_fits _)

pub returns : goal.returns
returns c =
    let is = ap run_text c.run-run.ensures ∙ run_text_lem c.args.session.now in
    let behind = rw is at c.put_listing-len.ensures.behind in
    let l = all_fits (listing_of c.args.session.now) c.args.out.now _ _ (omega (arith, behind)) (rw is at c.put_listing.ensures.behind) (rw is at c.put_listing.ensures.bytes) in
    (l.0, l.1, omega (arith, behind, c.put_listing-len.ensures.within))
