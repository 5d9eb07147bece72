pub mod KeptLaws
pub mod FieldLaws
pub mod FormLaws
