-- The worked examples: tests over small boards, scripts and schedules, and what they show.
pub mod Checks
pub mod Boards
pub mod Rows
