-- Walks that keep and break the walk rule.
pub mod WalkRows
-- What a journal tells of a whole: what was spent, what failed, what is in flight; and journals that break a rule.
pub mod Spent
pub mod Counts
pub mod Flight
pub mod Faulty
pub mod Selected
pub mod Layers
pub mod Worked
pub mod Wrong
