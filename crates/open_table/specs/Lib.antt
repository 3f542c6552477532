pub mod Open
pub mod Slots
