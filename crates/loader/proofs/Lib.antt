pub mod Limits
pub mod NumberLaws
