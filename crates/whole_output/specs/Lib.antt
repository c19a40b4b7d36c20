-- What each filter puts out for a whole input, and the calls that do.
pub mod Output
pub mod Chains
pub mod Meaning
pub mod Joined
