-- The entry as plain numbers.
pub mod Flat
