pub mod Sign
pub mod Stores
pub mod Whole
