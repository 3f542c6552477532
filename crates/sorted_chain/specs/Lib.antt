pub mod Chain
pub mod Lends
pub mod Marks
pub mod Nodes
pub mod Ownership
pub mod Places
