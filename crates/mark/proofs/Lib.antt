pub mod EightLaws
pub mod MarkLaws
