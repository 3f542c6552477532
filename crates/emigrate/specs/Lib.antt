pub mod Going
pub mod Stages
