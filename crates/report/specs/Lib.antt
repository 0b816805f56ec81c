-- The definitions that the contracts and theorems of `report` cite: the listing, and how its text is written.
pub mod Listing
pub mod Writing
pub mod Places
