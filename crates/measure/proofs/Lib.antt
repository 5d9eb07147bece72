pub mod WeightLaws
pub mod MeasureLaws
pub mod Weighing
pub mod Stored
