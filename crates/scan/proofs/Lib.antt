-- The laws of the reading, and that it is the grammar's.
pub mod Levels
pub mod Frames
pub mod Splits
pub mod Keys
pub mod Said
pub mod Stages
pub mod Values
pub mod Chain
pub mod Judged
pub mod Theorems
pub mod Choice
pub mod Framed
pub mod Cases
pub mod Required
