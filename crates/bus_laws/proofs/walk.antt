-- How often a walk settles and what that decides, whose messages it sends and on which buses, what it weighs, which locks
-- it holds, and that not all wait; and a walk one step on.
pub mod Keeps
pub mod SettleLaw
pub mod Calls
pub mod First
pub mod Jobs
pub mod MessageFacts
pub mod VerdictLaw
pub mod CostLaw
pub mod HoldsLaw
pub mod Waits
pub mod Reads
pub mod Next
