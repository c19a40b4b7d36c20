pub mod Ranges
pub mod Cases
