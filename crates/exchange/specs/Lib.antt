pub mod Met
pub mod Rows
pub mod Served
pub mod Steps
