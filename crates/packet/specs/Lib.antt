pub mod Fields
pub mod Request
pub mod Completion
pub mod Inner
