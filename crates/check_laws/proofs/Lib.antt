-- Gaps and logs, how many calls an entry tells, and that no legal journal begins otherwise than the core steps.
pub mod Gaps
pub mod CallsTold
pub mod Faults
pub mod Turns
pub mod Firsts
pub mod Rooted
