-- The laws of a header's parts, and that each answer is what its sentence says.
pub mod Dashes
pub mod Cpus
pub mod Stamps
pub mod Functions
pub mod Cases
