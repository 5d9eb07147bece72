pub mod Measure
pub mod Weight
