pub mod HistoryLaws
pub mod PlaceLaws
pub mod RecordLaws
pub mod StoreLaws
pub mod Tests
