-- Which roots and callers belong together.
pub mod Homes
-- A list parted, and put together again.
pub mod Shares
-- What cores are opened with, and what is left of them.
pub mod Rounds
-- What a run of a group leaves.
pub mod Slots
-- When the cores of groups are as one core.
pub mod Whole
