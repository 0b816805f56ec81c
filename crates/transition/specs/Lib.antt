-- The definitions that the contracts of `transition` cite: document 01's section "Operations", Credit and the answers.
pub mod Credit
pub mod Written
pub mod Helpers
