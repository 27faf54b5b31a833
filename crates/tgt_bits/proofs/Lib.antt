-- The number that has come so far fits the bits that came.
pub mod BitLemmas
pub mod SendLemmas
