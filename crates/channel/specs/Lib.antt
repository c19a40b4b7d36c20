-- What the contracts of `channel` cite.
pub mod Moving
pub mod Sink
pub mod Sentence
pub mod Status
