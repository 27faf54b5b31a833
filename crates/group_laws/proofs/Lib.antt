-- The proofs of the laws of groups.
pub mod Walks
pub mod Alike
pub mod Apart
pub mod Goes
pub mod Joins
