-- The laws that the proofs of `batch` cite, and its theorem.
pub mod Batches
