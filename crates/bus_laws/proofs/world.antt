-- Events given to a list, what conversations keep, who is joined, and what a message or a line does to the chips.
pub mod LineFacts
pub mod Feed
pub mod TalkLaws
pub mod TalkSizes
pub mod TalkThrough
pub mod Reach
pub mod Hears
pub mod Control
pub mod ChipLaws
pub mod Slots
pub mod BoardFacts
pub mod Law
pub mod Jobs
pub mod Calls
pub mod Sends
pub mod Lines
