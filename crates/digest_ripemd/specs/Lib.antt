pub mod Blocks
pub mod Digests
pub mod Lines
pub mod Tables
