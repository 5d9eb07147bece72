pub mod EachLaws
pub mod LoopLaws
pub mod ModuleLaws
