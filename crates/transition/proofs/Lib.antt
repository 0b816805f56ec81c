-- The laws of the definitions, which the proofs cite.
pub mod Lengths
pub mod Sizes
pub mod WrittenBack
pub mod Untouched
pub mod Enough
