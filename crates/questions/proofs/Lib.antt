-- The laws that the proofs of `questions` cite, and its theorems.
pub mod Asking
pub mod Over
pub mod Views
pub mod Unique
pub mod Cases
