-- The walks of each caller, what they leave, and all rules together.
pub mod First
pub mod Walks
pub mod Left
pub mod Legal
pub mod Ends
pub mod Through
