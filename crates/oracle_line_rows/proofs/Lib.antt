-- The law of a page's buffer.
pub mod Lent
