-- What is to be seen of a read that was cut off, by its root's world; what is pulled and looked at; what the calls come to; the read
-- after them; and worked examples.
pub mod Cuts
pub mod Pulls
pub mod Clears
pub mod Receives
pub mod Rows
