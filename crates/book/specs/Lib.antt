-- What the contracts of `book` cite: the grammar, what a search is for, and the check as one computed answer.
pub mod Grammar
pub mod Search
pub mod Seen
pub mod Reading
pub mod Finders
