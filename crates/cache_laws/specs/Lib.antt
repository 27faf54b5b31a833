-- The cache of the limit registers of sensors, and what it comes to.
pub mod Cache
pub mod Order
pub mod Fair
