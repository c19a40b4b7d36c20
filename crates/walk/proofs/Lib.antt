-- The laws of the one walk.
pub mod Separators
pub mod Starts
pub mod Values
pub mod Steps
pub mod Walks
pub mod Said
