-- What a walk and a past keep, told where it is needed for an induction: what a walk may do with the locks that it has
-- and what it knows of the buses, how often it settles, whose messages it sends, on which buses, and what it weighs;
-- what is so of the worlds, and of the callers together.
pub mod Runs
pub mod Lines
pub mod Told
pub mod Stands
pub mod Reach
pub mod Settles
pub mod Calls
pub mod Jobs
pub mod Ready
pub mod Costs
-- The locks of a walk by memory alone, what a journal tells of one caller, who waits, and what may come.
pub mod Holds
pub mod Others
pub mod Waiting
pub mod Coming
pub mod Following
-- The devices of a root's world and of the flat world.
pub mod Alike
-- What is known of the step that comes next.
pub mod Next
