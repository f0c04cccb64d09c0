pub mod Bits
pub mod Laws
pub mod Members
pub mod Noted
pub mod Only
pub mod Order
pub mod Pairs
pub mod Unique
