pub mod Numbers
pub mod Planned
pub mod Unique
