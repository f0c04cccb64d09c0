pub mod Masks
pub mod Enables
pub mod Laws
pub mod Twice
pub mod Unique
