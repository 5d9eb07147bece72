pub mod Ahead
