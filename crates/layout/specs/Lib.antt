pub mod Structures
pub mod Accepting
pub mod Proposing
pub mod Laying
pub mod Inner
