-- The laws of the definitions, which the proofs cite, and the theorems that docs/PROOFS.md names.
pub mod Examples
pub mod Halves
pub mod Reading
pub mod Scaling
pub mod Multiplying
pub mod Summing
pub mod Stripping
pub mod Widths
pub mod Writing
pub mod Assembling
pub mod Texts
pub mod Cutting
pub mod Theorems
