pub mod Writing
pub mod Kept
pub mod HeaderLaws
pub mod PatternLaws
