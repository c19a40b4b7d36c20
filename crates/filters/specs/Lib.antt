-- What the filters put out: of each unit, and of each call.
pub mod Seen
pub mod Texts
pub mod Bounds
pub mod Filter
pub mod Rows
pub mod Calls
