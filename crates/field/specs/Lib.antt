-- What the contracts of `field` cite: the field answer with the table that its entry stands in, its bit ranges, and where names stand.
pub mod Source
pub mod Ranges
pub mod Names
