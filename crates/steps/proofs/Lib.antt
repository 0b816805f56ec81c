-- The laws that the code of the steps cites.
pub mod Texts
pub mod Same
pub mod Tested
pub mod Looks
pub mod Turned
pub mod Checks
pub mod Stored
