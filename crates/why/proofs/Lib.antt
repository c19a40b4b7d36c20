-- The laws of what is said and of what is found.
pub mod Chains
pub mod Walks
