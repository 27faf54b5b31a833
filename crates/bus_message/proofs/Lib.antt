pub mod TalkLemmas
pub mod MessageLemmas
pub mod EndLemmas
-- The next message of a transfer partway.
pub mod PartwayLemmas
pub mod PortLemmas
-- What the proofs of this crate cite from elsewhere.
mod Cited
