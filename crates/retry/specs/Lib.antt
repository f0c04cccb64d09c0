pub mod Rows
pub mod Switch
pub mod Repeats
pub mod Writes
