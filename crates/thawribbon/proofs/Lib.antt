pub mod Bodies
pub mod Numbers
pub mod Sequence
pub mod Unique
