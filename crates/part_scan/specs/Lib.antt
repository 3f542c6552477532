pub mod Cuts
pub mod Paged
pub mod Steps
