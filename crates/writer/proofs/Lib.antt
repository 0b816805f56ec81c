-- The laws of the definitions, which the proofs cite, and the theorems that docs/PROOFS.md names.
pub mod Copying
pub mod Sheets
pub mod AmountBytes
pub mod RoundTrip
pub mod Examples
