-- The listing's rows.
pub mod Rows
