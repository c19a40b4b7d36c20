-- What the arguments say.
pub mod Words
