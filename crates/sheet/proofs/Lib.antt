pub mod Sheet
pub mod Behind
