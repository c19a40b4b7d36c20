-- What the contract of `set_or` cites.
pub mod Setting
