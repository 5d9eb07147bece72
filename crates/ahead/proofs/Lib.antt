pub mod Lengths
pub mod AheadLaws
pub mod Walk
