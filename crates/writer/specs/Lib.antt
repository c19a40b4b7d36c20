-- What the contracts of `writer` cite: what is written at a place, the body of each tag, the small writer, number 37, the conditions of 37 and 36, and the answer.
pub mod Put
pub mod Item
pub mod Small
pub mod Ranges
pub mod Typed
pub mod Conditions
pub mod Writing
