-- Why a hex number of a line is unreadable: what an answer means, and the one answer.
pub mod Reasons
pub mod Meaning
