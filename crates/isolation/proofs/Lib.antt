pub mod Project
pub mod Alone
pub mod Isolated
pub mod Halves
pub mod Calls
