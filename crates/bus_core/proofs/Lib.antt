-- The step of a walk that an action tells; the seat at a place, and what two steps leave of one; a step of the caller at
-- a place, and all else that stays: locks, messages, lines, refusals; who can step, and callers that step one after the
-- other; the opening; and that a core may go to another thread.
pub mod ActionLemmas
pub mod There
pub mod SeatLemmas
pub mod Reseating
pub mod Kept
pub mod Nexts
pub mod Looking
pub mod Locks
pub mod ReadsRoom
pub mod Converse
pub mod Heard
pub mod Conversed
pub mod Refuse
pub mod SetupsStay
pub mod Switch
pub mod Advances
pub mod Loops
pub mod Told
pub mod Opened
pub mod Seating
pub mod SendLemmas
-- What the proofs of this crate cite from elsewhere.
mod Cited
