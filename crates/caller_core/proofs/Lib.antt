pub mod CommandLemmas
pub mod CommandLines
pub mod FairLemmas
pub mod HandleLemmas
pub mod NameLemmas
pub mod PlaceLemmas
pub mod PlacedLemmas
pub mod QuietLemmas
pub mod ReachLemmas
pub mod RootLemmas
pub mod ScriptLemmas
pub mod SectionLemmas
pub mod SumLemmas
pub mod TakeLemmas
mod Cited
