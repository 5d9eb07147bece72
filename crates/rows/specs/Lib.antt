pub mod Accepted
pub mod Place
pub mod Sought
