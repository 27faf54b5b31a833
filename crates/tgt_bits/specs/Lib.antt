-- What is so of a target within a byte.
pub mod Targets
