-- What the program says of a line.
pub mod Saying
pub mod Reading
