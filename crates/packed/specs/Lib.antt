pub mod Unpacked
pub mod View
