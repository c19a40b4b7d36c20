-- The laws of the rows and of the time between two lines.
pub mod Joining
pub mod Digits
pub mod Gaps
