pub mod Capability
pub mod Records
pub mod Judging
pub mod Inner
