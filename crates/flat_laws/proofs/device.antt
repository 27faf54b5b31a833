-- A transfer part by part, what is said of one that is under way, and the induction over the entries.
pub mod Parts
pub mod Flat
pub mod Said
pub mod Stand
pub mod Calls
pub mod Law
