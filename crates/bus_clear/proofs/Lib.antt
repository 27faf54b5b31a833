-- The code's pulls and looks; clocks on the wires; a cut read and bus clear after it; and the world that they leave.
pub mod PullLemmas
pub mod Clocks
pub mod DataLemmas
pub mod AddressLemmas
pub mod AckLemmas
pub mod CutLemmas
pub mod WorldLemmas
pub mod ClearLemmas
pub mod LawLemmas
-- What the proofs of this crate cite from elsewhere.
mod Cited
