-- The laws of the words.
pub mod Asking
