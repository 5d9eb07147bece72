pub mod HandingLaws
pub mod FewLaws
pub mod Calls
