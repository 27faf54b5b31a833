pub mod AliasLemmas
pub mod Booleans
pub mod FittingLemmas
pub mod ListLemmas
pub mod MuxLemmas
pub mod SendLemmas
pub mod TransferLemmas
