mod Examples
pub mod HashLaws
pub mod InOrderLaws
pub mod ItemLaws
pub mod KeyLaws
pub mod LaneLaws
pub mod LeavingLaws
pub mod ListLaws
pub mod NumberLaws
pub mod RankLaws
pub mod StandingLaws
pub mod ViewListLaws
