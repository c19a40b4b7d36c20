-- The laws that the proofs of `packet` cite, and its theorems.
pub mod Fields
pub mod Clearing
pub mod Filling
pub mod Gathering
pub mod Latching
pub mod Opening
pub mod Packets
pub mod Theorems
pub mod Examples
