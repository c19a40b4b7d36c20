-- The laws of the reasons, and that each answer is what it means.
pub mod Said
pub mod Spots
pub mod Pieces
pub mod Told
pub mod Entries
pub mod Theorems
pub mod Cases
