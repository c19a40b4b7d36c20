-- The rows of `why`, what a number is called there, and the counts.
pub mod Names
pub mod Tally
pub mod Rows
