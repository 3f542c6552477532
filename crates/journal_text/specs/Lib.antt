pub mod FieldTexts
pub mod Journals
pub mod LineFields
pub mod LineGroups
pub mod PushFaults
pub mod Text
pub mod Values
