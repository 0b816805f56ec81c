-- The definitions that the contracts and theorems of `book` cite: document 01's section "Book".
pub mod Sets
pub mod Refusals
pub mod Places
pub mod Book
pub mod Steps
pub mod Plain
pub mod Claim
