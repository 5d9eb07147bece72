pub mod DecimalLaws
pub mod Put
pub mod Exits
pub mod Calls
