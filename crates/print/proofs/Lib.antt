-- The laws of putting text.
pub mod Counting
pub mod Copying
pub mod Hexing
