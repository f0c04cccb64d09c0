pub mod Run
pub mod Calls
pub mod Bench
pub mod Servers
pub mod Clearing
pub mod Hiding
pub mod Bit7
