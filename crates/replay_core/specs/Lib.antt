pub mod Streams
pub mod Playing
pub mod Outcome
pub mod Endings
