pub mod DriverLemmas
pub mod PageLemmas
pub mod PieceLemmas
pub mod RowLemmas
pub mod SensorLemmas
pub mod TextLemmas
