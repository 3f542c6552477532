pub mod NumberLaws
pub mod VersionLaws
