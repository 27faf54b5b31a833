pub mod Looks
pub mod Marks
pub mod Plans
pub mod Rooms
pub use Rattle.bus_spec.specs.Walk
pub use Rattle.bus_spec.specs.Slots
pub use Rattle.bus_spec.specs.Grammar
