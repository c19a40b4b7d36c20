-- The laws of the rows.
pub mod Rowing
pub mod Columns
