-- The channels of a chip; an EEPROM as it opens, and its pages; and what each kind may send, then a device of any kind.
pub mod ChipLemmas
pub mod OpenLemmas
pub mod PageLemmas
pub mod EepromSends
pub mod SmallSends
mod Starts
pub mod SendLemmas
