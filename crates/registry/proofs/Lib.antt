-- The laws of the definitions, which the proofs cite.
pub mod Examples
pub mod Readers
pub mod Tests
pub mod Words
