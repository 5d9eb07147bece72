pub mod Lent
pub mod Exits
pub mod Calls
