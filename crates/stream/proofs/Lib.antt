-- The laws of a stream's answers.
pub mod Reading
pub mod Steps
pub mod Records
pub mod FedAgain
pub mod Entries
pub mod Whole
pub mod States
pub mod EachUnit
pub mod Worked
