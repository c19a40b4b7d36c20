-- The laws of shown names.
pub mod Escaping
pub mod Theorems
