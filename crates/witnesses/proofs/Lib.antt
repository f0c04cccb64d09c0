pub mod Examples
pub mod Bite
pub mod Needed
pub mod HalvesNeeded
pub mod Wrong
pub mod Faulty
pub mod Dual
