pub use Rattle.i2c_spec.specs.Chips
