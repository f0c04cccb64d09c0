pub mod Table
pub mod Chain
pub mod Breaks
pub mod Walks
pub mod Inner
