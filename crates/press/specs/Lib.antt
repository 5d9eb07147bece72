pub mod Pressed
pub mod Promise
