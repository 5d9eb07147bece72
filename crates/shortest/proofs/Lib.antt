pub mod FoundLaws
