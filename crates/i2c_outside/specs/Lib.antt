-- What files and an output in memory hold, and which of their calls fail.
pub mod Shelves
pub mod Sinks
