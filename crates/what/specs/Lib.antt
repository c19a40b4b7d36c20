-- What the program prints.
pub mod Row
