pub mod Refusal
pub mod Test
