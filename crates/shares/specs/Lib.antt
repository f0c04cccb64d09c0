pub mod Kinds
pub mod Views
pub mod Statements
pub mod Calls
