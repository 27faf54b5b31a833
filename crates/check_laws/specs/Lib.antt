-- What a journal tells of the calls that failed, and where one stops being legal.
pub mod Failed
pub mod Wrong
