-- When two runs are alike, and that they come to the same.
pub mod Alike
pub mod Sessions
