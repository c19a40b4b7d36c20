-- The units of a stream, and a part of it fed.
pub mod Units
pub mod Feeding
