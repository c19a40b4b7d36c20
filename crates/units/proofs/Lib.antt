-- The laws of units.
pub mod Firsts
pub mod Streams
pub mod WhatIsKept
pub mod Bodies
pub mod Heads
pub mod LinesOn
pub mod States
pub mod Ends
pub mod Existence
pub mod Calls
pub mod Counting
