pub mod AskLaws
pub mod Calls
