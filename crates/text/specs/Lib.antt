-- What the contracts of `text` cite: classes, places, runs, equal texts, numbers, bytes as one number, the table of the classes, and quoted texts for worked examples; and what a call tells, for all crates.
pub mod Class
pub mod Place
pub mod Run
pub mod Part
pub mod Same
pub mod Number
pub mod Decimal
pub mod Word
pub mod Table
pub mod Quote
pub mod Told
