pub mod PlaceLaws
pub mod RowsLaws
pub mod ServedLaws
pub mod TakenLaws
