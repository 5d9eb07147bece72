pub mod Tabulate
pub mod Entries
pub mod Round
pub mod Tuning
pub mod Calls
