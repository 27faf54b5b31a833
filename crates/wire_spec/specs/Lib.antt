-- The definitions, from one target to the world of a root; then the laws, and worked examples.
pub mod Wires
pub mod Roots
pub mod Bus
pub mod Started
pub mod Calls
pub mod Sites
pub mod Laws
pub mod WorldLaws
pub mod CallLaws
pub mod Rows
