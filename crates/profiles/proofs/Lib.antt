-- The laws of the definitions, which the proofs cite, and the theorems that docs/PROOFS.md names.
pub mod Known
pub mod Edges
