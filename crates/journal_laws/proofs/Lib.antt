-- What the entries of a past tell together.
pub mod past
-- One journal at most that follows a schedule.
pub mod schedule
-- Worked examples.
pub mod worked
-- What the proofs of this crate cite from elsewhere.
mod Cited
