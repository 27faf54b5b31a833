-- What an analyser sees of a read.
pub mod Reads
