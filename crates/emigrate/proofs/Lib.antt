pub mod CollectLaws
pub mod CountLaws
pub mod FirstLaws
pub mod TargetLaws
