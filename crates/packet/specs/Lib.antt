-- What the contracts of `packet` cite: what a field says, the steps that describe the dwords, and the packet with its numbers.
pub mod Field
pub mod Steps
pub mod Packet
pub mod Conditions
pub mod Inner
