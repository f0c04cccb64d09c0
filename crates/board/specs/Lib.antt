pub mod Description
pub mod Access
pub mod Serving
pub mod Promise
pub mod Inner
