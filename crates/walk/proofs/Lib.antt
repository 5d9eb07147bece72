pub mod RunLaws
pub mod FileLaws
pub mod Calls
