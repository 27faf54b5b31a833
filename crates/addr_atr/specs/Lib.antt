-- The map of translators, and what it makes of a board and of a transfer.
pub mod Maps
pub mod Lowering
pub mod Kept
pub mod Callers
pub mod MapTexts
pub mod Runs
pub mod Examples
