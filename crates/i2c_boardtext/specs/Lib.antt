-- The table of keys, and the board that a text spells by it.
pub mod Names
pub mod Items
pub mod Rules
pub mod Numbers
pub mod Devices
pub mod Keys
pub mod Values
pub mod Cuts
pub mod BoardText
pub mod Rows
pub use Rattle.i2c_base.specs.Board
pub use Rattle.i2c_spec.specs.Plain
pub use Rattle.i2c_spec.specs.Tree
