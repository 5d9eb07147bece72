pub mod CutLaws
pub mod PieceLaws
