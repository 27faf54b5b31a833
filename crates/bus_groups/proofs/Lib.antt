-- Homes part the roots.
pub mod HomeLemmas
-- A list parted, and put together again.
pub mod ShareLemmas
-- Each share may open a core.
pub mod RoundLemmas
-- What is put together again.
pub mod OrderLemmas
pub mod Joining
-- The cores of groups are as one core.
pub mod Whole
-- What the proofs of this crate cite from elsewhere.
mod Cited
