-- Pairs and data: what is meant, and the one answer.
pub mod Pair
pub mod Data
pub mod Table
