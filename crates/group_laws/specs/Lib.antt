-- Groups of callers and roots, and what is so of them in a journal.
pub mod Groups
