-- What comes after a past, step by step: who is stuck waits, the steps of a journal, and a loop over a schedule.
pub mod Coming
pub mod Turns
pub mod Following
