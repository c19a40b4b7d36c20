-- The laws of entries that callers' proofs cite, and case P1 of document 01.
pub mod Parts
pub mod Pads
pub mod Digits
pub mod Rows
pub mod Names
pub mod Cases
