-- The laws of the intake, and demand 3.
pub mod Taking
pub mod Theorems
pub mod Slots
pub mod Handing
pub mod Asking
pub mod Ranges
pub mod Made
pub mod Demand3
pub mod Demand3Packets
pub mod FirstBytes
pub mod WhatItIs
