-- The levels of the two wires behind each step of a controller; lines that are recorded; the text of a dump; what an analyser reads.
pub mod Levels
pub mod Recordings
pub mod Dumps
pub mod Readings
pub mod Waves
