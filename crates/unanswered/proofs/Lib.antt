-- The laws of what is said.
pub mod Sayings
