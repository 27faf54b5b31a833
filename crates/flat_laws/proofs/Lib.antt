-- Laws that crates above cite.
pub mod Laws
-- The devices and the replies of a whole past are those of the flat world.
pub mod device
-- The paths of a walk are the lists of the walk rule.
pub mod walk
-- What the entries of a past tell together.
pub mod past
-- What the proofs of this crate cite from elsewhere.
mod Cited
