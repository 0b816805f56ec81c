-- The definitions that the contracts of `resource_state` cite: document 01's section "Operations", Apply.
pub mod Next
pub mod Apply
pub mod Helpers
