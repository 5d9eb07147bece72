pub mod FillLaws
pub mod VerdictLaws
pub mod IntoLaws
pub mod Calls
