pub mod FeedLemmas
pub mod FitLemmas
pub mod FlatLemmas
pub mod NamedLemmas
pub mod SendingLemmas
pub mod TransferLemmas
mod Cited
