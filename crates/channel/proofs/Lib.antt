-- The laws of the sink and of sentences.
pub mod Sinks
pub mod Sentences
