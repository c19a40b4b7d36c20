-- What the C calls answer.
pub mod Calls
pub mod Packets
pub mod Told
pub mod Requests
pub mod Hexes
pub mod Streams
