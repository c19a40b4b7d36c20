-- The unreadable hex numbers of a line, and what the program says of them.
pub mod Finding
pub mod Saying
pub mod Reading
