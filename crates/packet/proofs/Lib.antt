pub mod Laws
pub mod Numbers
pub mod Digest
pub mod EnablesAside
pub mod Bit7Aside
pub mod Unique
