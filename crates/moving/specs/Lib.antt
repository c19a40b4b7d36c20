-- What the contracts of `moving` cite.
pub mod Programs
pub mod Steps
