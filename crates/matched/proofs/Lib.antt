-- A step of the table acts as a step of the list, so what document 02 a) promises holds of every history.
pub mod Counts
pub mod Fours
pub mod Asks
pub mod Kept
pub mod Does
pub mod Lists
pub mod Acts
pub mod One
pub mod Some
pub mod Slots
pub mod InPlace
pub mod ReadOut
pub mod Refusals
pub mod Histories
pub mod Matched
pub mod Worked
