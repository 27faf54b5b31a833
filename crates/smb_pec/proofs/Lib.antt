pub mod DivisionLemmas
pub mod TableLemmas
