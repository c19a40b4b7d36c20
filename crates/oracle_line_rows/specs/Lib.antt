-- What the contracts of `oracle_line_rows` cite.
pub mod Lent
