-- What the contracts of `print` cite.
pub mod Put
pub mod Hex
pub mod Page
