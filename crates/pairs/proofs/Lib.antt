-- The laws of pairs and data, and that each answer is what its sentence says.
pub mod Ends
pub mod Tries
pub mod Matches
pub mod PairLists
pub mod LastPairs
pub mod Rows
pub mod Cuts
pub mod Slots
pub mod BadPieces
pub mod Printed
pub mod Bracketing
pub mod Pieces
pub mod Cases
