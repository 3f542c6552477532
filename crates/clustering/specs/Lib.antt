pub mod Agreeing
pub mod Answers
pub mod Parts
pub mod Stages
