-- What is seen of lines; what they show in a call; how they stand between two calls; the calls that were made on a port, and
-- what is seen of one over lines.
pub mod Wiring
pub mod Showing
pub mod Stands
pub mod CallLogs
pub mod PortViews
