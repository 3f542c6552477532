pub mod JoinLaws
pub mod NextLaws
pub mod OrderLaws
