-- The definitions that the contracts and theorems of `sheet` cite: document 01's section "Sheets", and document 02's request 3.
pub mod Walk
pub mod Sheet
pub mod Amounts
pub mod Fields
pub mod Reading
