pub mod Text
pub mod Listing
pub mod Prints
pub mod Inner
