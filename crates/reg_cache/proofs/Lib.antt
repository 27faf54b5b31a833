pub mod CacheLemmas
pub mod DriverLemmas
pub mod TouchLemmas
pub mod TextLemmas
pub mod LineLemmas
pub mod ScriptLemmas
pub mod ReachLemmas
mod Cited
