pub mod Masks
pub mod OneBit
pub mod Told
pub mod Numbers
pub mod Unique
pub mod Traps
pub mod NotOne
