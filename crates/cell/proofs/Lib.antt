pub mod Bits
pub mod ReadLaws
pub mod ReadRuns
pub mod WriteLaws
pub mod OverLaws
pub mod WriteRuns
