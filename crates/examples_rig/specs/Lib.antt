-- A caller that asks for one read, and a rig without targets.
pub mod OneReads
pub mod QuietRigs
