pub mod Copies
pub mod Store
pub mod StampList
