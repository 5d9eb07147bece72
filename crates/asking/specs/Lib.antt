pub mod Ask
