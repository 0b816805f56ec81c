-- The definitions that the contracts of `registry` cite: document 01's section "Operations", the refusals and the tests.
pub mod Refusals
pub mod Readers
pub mod Tests
pub mod Call
pub mod Helpers
