-- The laws of texts that callers' proofs cite, and the cases of document 01 that are about texts alone.
pub mod Places
pub mod Blocks
pub mod Runs
pub mod Stripping
pub mod OwnParts
pub mod Texts
pub mod Computed
pub mod Words
pub mod Numbers
pub mod Entries
pub mod FewDigits
pub mod DigitRuns
pub mod Hexes
pub mod Decimals
pub mod Told
pub mod Cases
