-- A script with the devices that it may keep, as a caller; and which these are.
pub mod Cached
pub mod Cacheable
