-- The laws of the cache, from one conversation to all entries of a journal.
pub mod One
pub mod Alike
pub mod Gate
pub mod Transfer
pub mod Known
pub mod Law
pub mod Fair
pub mod Touch
