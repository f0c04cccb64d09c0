pub mod Laws
pub mod Unique
pub mod Verdicts
pub mod Ways
pub mod Bit7
pub mod Wrong
