-- What the contracts of `questions` cite: the questions of a described packet, and the questions of a packet.
pub mod Described
pub mod Questions
