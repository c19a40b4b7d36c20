-- What a record is, and what the contracts of `record` cite. `Grammar` is what to believe; the rest says how the one answer comes about.
pub mod Grammar
pub mod Rule
pub mod Judging
pub mod Conditions
pub mod Finding
pub mod Gathering
pub mod Reading
