-- What is kept of a stream of lines, and what one more line changes.
pub mod Kept
pub mod Turn
