-- The laws of rows.
pub mod Putting
