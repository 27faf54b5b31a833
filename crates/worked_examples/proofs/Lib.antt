pub mod SendLemmas
pub mod ReadLemmas
