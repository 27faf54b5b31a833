-- The lemmas, from one clock of one target to the calls on the wires of a root.
pub mod ByteLemmas
pub mod Clocks
pub mod Roots
pub mod Calm
pub mod Rests
pub mod AckClock
pub mod SlowClock
pub mod Address
pub mod StartClocks
pub mod Stops
pub mod LateStops
pub mod Repeats
pub mod StartLemmas
pub mod LiveLemmas
pub mod WorldLemmas
pub mod SiteLemmas
pub mod ByteLaws
pub mod StartLaws
pub mod SiteLaws
pub mod CallLaws
-- What the proofs of this crate cite from elsewhere.
mod Cited
