pub mod CopyLaws
mod WholestLaws
