-- The laws of the definitions, which the proofs cite, and the theorems that docs/PROOFS.md names.
pub mod Tables
pub mod Walking
pub mod Finding
pub mod Forms
pub mod Holding
pub mod Three
pub mod Examples
