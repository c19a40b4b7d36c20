-- The laws of writing: bytes at a place, the items of an entry, the small writer and its chain of appends, the ways to an answer, the round trips.
pub mod Puts
pub mod Writes
pub mod RoundTrips
