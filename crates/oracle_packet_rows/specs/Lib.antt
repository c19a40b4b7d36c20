-- What the contract of `count_control` cites.
pub mod Count
