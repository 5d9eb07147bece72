pub mod RecordsLaws
pub mod Calls
