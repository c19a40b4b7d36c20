-- What the contracts of `escape` cite.
pub mod Escape
