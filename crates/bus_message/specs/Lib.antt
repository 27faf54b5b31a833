-- One message, and one line step, over the port of a root.
pub mod Talks
pub mod Ports
pub mod Sends
pub mod Cursors
