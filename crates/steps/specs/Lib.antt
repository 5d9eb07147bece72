pub mod Kind
pub mod Step
