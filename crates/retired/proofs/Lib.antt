-- No call answers 10.
pub mod Retired
