-- The core over plain lists: callers with their walks, ports, lock words, and what is kept of them between two steps.
pub mod Spots
pub mod Sends
pub mod Table
pub mod Seats
pub mod Ports
pub mod Owed
pub mod Steps
pub mod Core
pub mod Behind
pub mod Opens
pub mod Wants
