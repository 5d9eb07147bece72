pub mod Period
pub mod Tuned
pub mod Promise
