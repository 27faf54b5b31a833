-- Which entries a journal may hold and what its text tells, what a report tells, the one entry that a line could be, and the five
-- counts of a journal.
pub mod Ranges
pub mod Borrowed
pub mod View
pub mod Told
pub mod Guess
pub mod Reports
pub mod Fronts
pub mod Tallies
