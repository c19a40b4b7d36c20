-- The line: its grammar, the conditions of its numbers, and the one reading.
pub mod Need
pub mod Frame
pub mod High
pub mod Head
pub mod Body
pub mod Dwords
pub mod Parse
pub mod Line
pub mod Choice
