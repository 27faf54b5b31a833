-- A session over a board, and the lines of an input.
pub mod Inputs
pub mod Sessions
