pub mod Laws
pub mod Outcomes
pub mod Unique
pub mod Refusals
pub mod Keeps
pub mod Computing
