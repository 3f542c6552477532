pub mod Fields
pub mod Parts
pub mod Reading
pub mod Unread
pub mod Words
