pub mod Faults
pub mod Sequels
pub mod RoundLaws
pub mod RoundLines
pub mod CommandLaws
pub mod MoreLines
pub mod InTime
