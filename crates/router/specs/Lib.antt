pub mod Routing
pub mod Promise
pub mod Row
pub mod Wrong
pub mod Inner
