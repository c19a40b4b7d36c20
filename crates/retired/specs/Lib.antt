-- What is promised of a number that was taken out.
pub mod Retired
