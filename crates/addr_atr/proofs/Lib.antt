pub mod CheckLemmas
pub mod CostLemmas
pub mod FairLemmas
pub mod MapTextLemmas
pub mod OpenLemmas
pub mod OwnLemmas
pub mod RenameLemmas
pub mod RouteLemmas
pub mod RunLemmas
pub mod TranslateLemmas
mod Cited
