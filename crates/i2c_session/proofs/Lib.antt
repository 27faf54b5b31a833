-- The lines of an input, and what a session makes of them.
pub mod FlatFits
pub mod LineLemmas
pub mod SessionLemmas
pub mod TalkLemmas
