-- What the contracts of `saying` cite.
pub mod Telling
