-- What the contracts of `entry` cite: events, kinds, and the entry as a value; and what is promised of the event table and of the events' names.
pub mod Codes
pub mod Event
pub mod Names
pub mod Kind
pub mod Entry
