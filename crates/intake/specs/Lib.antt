-- What the intake answers, what demand 3 asks, of lines and records and of packets, and what a text is.
pub mod Intake
pub mod Packets
pub mod Demand3
pub mod Demand3Packets
pub mod What
