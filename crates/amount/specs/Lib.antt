-- The definitions that the contracts and theorems of `amount` cite: document 01's section "Amount".
pub mod Numbers
pub mod Decimal
pub mod Amounts
pub mod Canonical
pub mod Texts
pub mod Helpers
pub mod Order
