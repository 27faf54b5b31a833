-- That threads may share a desk.
pub mod SendLemmas
