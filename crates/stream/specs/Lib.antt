-- A stream's answers, and the calls that give them.
pub mod Answers
pub mod Feeding
pub mod Streams
pub mod Worked
