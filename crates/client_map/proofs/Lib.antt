pub mod BestLaws
pub mod TableLaws
