-- One caller and the others, one step, the induction over the entries, and what it gives.
pub mod StandsFacts
pub mod StandsStep
pub mod StandsEntries
pub mod StandsOpening
pub mod Laws
pub mod Closed
pub mod Marks
pub mod Asked
pub mod Whole
pub mod Placed
pub mod Ready
pub mod Next
pub mod NextLine
pub mod Others
pub mod Stays
pub mod Known
pub mod Bytes
