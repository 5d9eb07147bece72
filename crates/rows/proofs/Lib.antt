pub mod Reading
pub mod PatternLaws
pub mod InstrumentLaws
pub mod PlaceLoops
pub mod SampleLaws
