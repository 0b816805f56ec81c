use Rattle.std.proofs.Common.{arith, sym}
use Rattle.std.proofs.Math.Seq.{length-take-le}
use Rattle.report.proofs.Fitting.{length_in_lem}
use Rattle.listing.proofs.main.Goals as goal

pub slice_bounds-out-end : goal.slice_bounds-out-end
slice_bounds-out-end c =
    let told = length_in_lem _ _ _ c.listing-len.ensures.0 in
    omega arith

pub slice_bounds-write_all-end : goal.slice_bounds-write_all-end
slice_bounds-write_all-end c =
    let told = length_in_lem _ _ _ c.listing-len.ensures.0 in
    sym (length-take-le c.listing-len.result c.listing-len.new.out (omega arith))
