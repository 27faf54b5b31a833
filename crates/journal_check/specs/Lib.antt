-- A port that fails as a journal tells, and what a check of a journal finds.
pub mod Ports
pub mod Steps
pub mod Opens
pub mod Checks
pub mod Gaps
pub mod Forms
pub mod Texts
pub mod Faults
