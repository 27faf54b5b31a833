-- The words of a list of calls, and the endings of a run in which they fail.
pub mod FaultLemmas
pub mod ListLemmas
pub mod NumberLemmas
pub mod RowLaws
pub mod SessionLemmas
pub mod WaveLemmas
