mod CutLaws
mod NumberLaws
mod ReadLaws
mod RecordLaws
