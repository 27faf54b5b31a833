-- Laws that crates above cite.
pub mod Laws
-- The tree law: what a walk keeps of locks and slots, whatever its steps give.
pub mod tree
-- The world law: what a message or a line step does to the chips of a root's world.
pub mod world
-- What is so of every walk: it settles once, sends its own transfer's messages, and costs no more than that.
pub mod walk
-- What every stepwise past keeps.
pub mod past
-- The steps of a journal, and the schedule that it follows.
pub mod schedule
-- The devices law: one message over a root's world and over the flat world.
pub mod device
-- What the proofs of this crate cite from elsewhere.
mod Cited
