-- The laws that the proof of a step in a lent book cites.
pub mod Shown
