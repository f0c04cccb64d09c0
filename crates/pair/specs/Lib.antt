pub mod Pair
pub mod Serving
pub mod Promise
pub mod Inner
