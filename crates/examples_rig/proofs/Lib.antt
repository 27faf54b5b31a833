-- One read, and ports that are all alike.
pub mod FairLemmas
