-- Document 01's cases, together; its numbers, each reached; and the `fwd` line's record.
pub mod Cases
pub mod Fwd
pub mod Reached
