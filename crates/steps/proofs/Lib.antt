pub mod KindLaws
pub mod HeaderLaws
pub mod PatternLaws
pub mod InstrumentLaws
