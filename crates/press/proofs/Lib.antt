pub mod Exits
pub mod Calls
