pub mod Loops
pub mod Exits
pub mod Calls
