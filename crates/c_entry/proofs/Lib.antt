-- The laws of the flat entry.
pub mod Flats
