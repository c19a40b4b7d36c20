-- However the input is cut, the output is that of the whole input.
pub mod Streaming
pub mod Counting
pub mod Whole
pub mod Sample
pub mod Meaning
pub mod Joined
