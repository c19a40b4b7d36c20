-- What the one walk over a payload keeps of each key.
pub mod Start
pub mod Kept
