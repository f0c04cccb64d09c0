pub mod Between
pub mod Parts
pub mod Servers
