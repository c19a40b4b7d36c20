-- What a unit puts out, and what a chain of them does.
pub mod Parts
pub mod Records
pub mod Cuts
pub mod UnitTexts
pub mod Turns
