pub mod CopyLaws
mod RowLaws
mod StampLaws
mod StoreLaws
pub mod RoomLaws
pub mod SameRows
pub mod WalkLaws
