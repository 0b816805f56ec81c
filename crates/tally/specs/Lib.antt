-- The definitions that the contracts of `tally` cite.
pub mod Counts
pub mod Judging
