-- The definitions that the contracts and theorems of `writer` cite: document 01's section "Sheets", what is written.
pub mod Encode
pub mod Helpers
