-- Slots, what a doer keeps, the base of the grammar, the path, one mux, falling locks, and the induction over hops.
pub mod Slots
pub mod Doers
pub mod Base
pub mod Path
pub mod Behind
pub mod Falls
pub mod Law
