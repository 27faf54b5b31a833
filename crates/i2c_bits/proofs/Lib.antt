-- The looks and the bits that are left; what a call on told lines comes to.
pub mod Looks
pub mod Shifts
pub mod Told
pub mod Starts
pub mod Stops
-- That a port may go to another thread.
pub mod SendLemmas
