-- The laws that the code of an audit cites, and those that the steps go by.
pub mod BitCode
pub mod Sums
pub mod Sound
pub mod Naming
