-- Counts of faults, and what a port asks of a line call.
pub mod Causes
pub mod LineCalls
