pub mod Read
pub mod Over
