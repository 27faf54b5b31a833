pub mod Asked
pub mod Faultless
pub mod Listed
pub mod Others
pub mod Planned
pub mod Rooted
pub mod Ruled
pub mod Same
pub mod SessionScripts
pub mod Steps
pub mod Told
mod Cited
