-- What each function over one slot computes; `pending` says of these what they mean of a table.
pub mod Ask
pub mod Look
pub mod Decide
