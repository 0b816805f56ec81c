-- The definitions that the contracts and theorems of `profiles` cite: document 01's section "Operations".
pub mod Stack
pub mod Balance
pub mod Meter
pub mod Check
