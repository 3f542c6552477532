pub mod CodecLaws
pub mod Highest
pub mod Loops
pub mod Lowest
pub mod Orders
