-- Laws about tables and steps: what a look at all slots finds, and what the plan that follows means.
pub mod Fold
pub mod Looks
pub mod Bits
pub mod Marks
pub mod Fours
pub mod Sounds
pub mod Steps
pub mod Turns
