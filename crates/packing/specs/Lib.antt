pub mod Packed
pub mod Promise
