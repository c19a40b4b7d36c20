-- The rows of `unanswered`, their parts, and the time between two lines.
pub mod Parts
pub mod Gap
pub mod Rows
