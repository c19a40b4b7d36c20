-- The parts of a header: what is meant, and the one answer.
pub mod Dash
pub mod Cpu
pub mod Stamp
pub mod Function
