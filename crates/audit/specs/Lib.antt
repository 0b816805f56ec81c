-- The definitions of an audit's code: test 28 and the total as one answer, and a sum by halves.
pub mod Totals
