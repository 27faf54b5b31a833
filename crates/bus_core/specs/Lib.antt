-- What the core keeps between two steps: its parts as plain lists, and what is known of them.
pub mod Replies
pub mod Marks
pub mod Places
pub mod Opening
pub mod Looks
pub mod Kept
pub mod Seats
pub mod Steps
pub mod State
pub mod Ready
pub mod Opens
pub mod Runs
pub mod Answers
