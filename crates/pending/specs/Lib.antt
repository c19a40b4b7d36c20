-- Document 02 a) of a table of slots: what is a table, and what one entry does to it.
pub mod Table
pub mod Step
pub mod Words
pub mod Over
