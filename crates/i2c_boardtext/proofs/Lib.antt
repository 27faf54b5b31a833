pub mod DataLemmas
pub mod KeepLemmas
pub mod MuxLemmas
mod PartLemmas
pub mod RowLemmas
pub mod RuleLemmas
pub mod RunLemmas
pub mod TextLemmas
mod Cited
