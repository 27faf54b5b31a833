-- The steps of a journal that follows a schedule, and that there is one at most.
pub mod Whole
pub mod Unique
