-- Gaps that are used up call by call.
pub mod PortLemmas
pub mod SendLemmas
pub mod LineLemmas
pub mod StepLemmas
pub mod OverLemmas
pub mod CheckLemmas
pub mod GapLemmas
pub mod ReportLemmas
pub mod AnswerLemmas
pub mod FormLemmas
pub mod SectionLemmas
-- What the proofs of this crate cite from elsewhere.
mod Cited
