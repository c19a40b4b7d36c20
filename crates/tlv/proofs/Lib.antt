pub mod Numbers
pub mod Fields
pub mod Places
pub mod Walks
pub mod Pieces
pub mod Twice
pub mod Levels
pub mod Examples
