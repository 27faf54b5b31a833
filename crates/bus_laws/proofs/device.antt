-- One message over two listeners, who hears it, and what it leaves.
pub mod Talk
pub mod Hears
pub mod Leads
pub mod Same
pub mod Grant
pub mod Stops
pub mod Stay
pub mod Alike
pub mod Reach
pub mod Past
