-- The units of a stream, what is kept of an open one, and the calls.
pub mod Units
pub mod Kept
pub mod Feeding
pub mod Counting
