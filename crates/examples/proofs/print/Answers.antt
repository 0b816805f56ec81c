use Rattle.std.proofs.Common.{arith, sym}
use Rattle.std.proofs.Math.Seq.{length-take-le}
use Rattle.report.proofs.Fitting.{length_in_lem}
use Rattle.examples.proofs.print.Goals as goal

pub slice_bounds-listing-end : goal.slice_bounds-listing-end
slice_bounds-listing-end g c =
    let told = length_in_lem _ _ _ c.credits_session_listing-len.ensures.0 in
    omega arith

pub slice_bounds-write_all-end : goal.slice_bounds-write_all-end
slice_bounds-write_all-end g c =
    let told = length_in_lem _ _ _ c.credits_session_listing-len.ensures.0 in
    sym (length-take-le c.credits_session_listing-len.result c.credits_session_listing-len.new.out (omega arith))
