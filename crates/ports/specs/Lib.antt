pub mod Ports
pub mod Choice
pub mod Buses
pub mod Noting
