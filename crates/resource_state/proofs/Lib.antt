-- The laws of the definitions, which the proofs cite.
pub mod Laws
pub mod Covered
