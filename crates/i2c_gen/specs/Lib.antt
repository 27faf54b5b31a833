-- The generated board, the draws of a seed, and the scripts and the schedule that they make.
pub mod Boards
pub mod Draws
pub mod Made
pub mod Scripts
