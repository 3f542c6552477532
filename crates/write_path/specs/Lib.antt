pub mod Writes
pub mod Numbered
