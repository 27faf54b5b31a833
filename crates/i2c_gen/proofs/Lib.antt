pub mod BoardLemmas
pub mod CostLemmas
pub mod DrawLemmas
pub mod LineLemmas
pub mod NumberLemmas
pub mod ScriptLemmas
pub mod TextLemmas
pub mod WordLemmas
