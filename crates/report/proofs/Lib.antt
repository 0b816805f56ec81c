-- The laws of the definitions, and the theorems that docs/PROOFS.md names.
pub mod Putting
pub mod Digits
pub mod Turns
pub mod Fitting
pub mod Opened
pub mod Untouched
pub mod Theorems
pub mod Worked
