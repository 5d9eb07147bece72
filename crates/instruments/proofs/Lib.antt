pub mod InstrumentLaws
