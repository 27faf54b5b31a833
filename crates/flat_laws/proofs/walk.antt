-- Paths of a walk: each piece of the grammar keeps its rule, and so does the walk of a transfer.
pub mod Paths
pub mod Rule
pub mod Ruled
pub mod HoldsOn
