-- A transfer message by message, what a whole journal leaves of the devices, and when its callers are through.
pub mod Parts
pub mod Left
pub mod Ends
-- The paths of a walk tree, and the walks of a caller as the tree tells them.
pub mod Paths
pub mod Led
