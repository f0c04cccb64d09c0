pub mod Examples
pub mod Late
pub mod Needed
pub mod Wrong
pub mod Faulty
pub mod Bite
