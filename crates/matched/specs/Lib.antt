-- Document 02 a) over whole histories. Read `Asks` (what an entry asks) and `Requests` (the plain list) first, then `Holds` (when a table stands for a
-- list), `History` (entries in file order, and what is counted), `Matched` for all that is promised, and `Worked` for one history step by step.
pub mod Asks
pub mod Requests
pub mod Holds
pub mod History
pub mod Matched
pub mod Worked
