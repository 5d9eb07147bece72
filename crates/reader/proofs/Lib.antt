pub mod AfterLaws
pub mod CountLaws
pub mod Calls
