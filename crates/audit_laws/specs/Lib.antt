pub mod Lawful
pub mod Fits
pub mod Names
