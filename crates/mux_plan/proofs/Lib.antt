-- Opening a task changes the stack and not its tree; how each step's outcome goes on; that a stack has room; that a walk
-- with a task has a step to come; that marks tell what is known; and that the path of an accepted board fits.
pub mod Openings
pub mod Rooms
pub mod StepsLeft
pub mod MuxUpdates
pub mod MarksTold
pub mod OpensFit
mod StackLemmas
-- What the proofs of this crate cite from elsewhere.
mod Cited
