-- A stream's units: one list of them, however the stream is cut; where a unit ends; a part fed.
pub mod OneList
pub mod Parts
pub mod Endings
pub mod Feedings
