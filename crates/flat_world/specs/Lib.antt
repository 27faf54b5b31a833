pub mod Devices
pub mod Sending
pub mod Worlds
