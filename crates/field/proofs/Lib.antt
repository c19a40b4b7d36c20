-- The laws that the proofs of `field` cite, and its theorems.
pub mod Sources
pub mod Tables
pub mod Naming
