pub mod Examples
pub mod Handles
pub mod Stored
pub use Rattle.i2c_spec.specs.Board
pub use Rattle.i2c_spec.specs.Tree
pub use Rattle.i2c_spec.specs.Grant
