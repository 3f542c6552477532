pub mod Changes
pub mod Dressed
pub mod Leaving
pub mod Planned
