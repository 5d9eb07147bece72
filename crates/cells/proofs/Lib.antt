pub mod Fill
pub mod UnpackedLaws
