pub mod Entries
pub mod Passing
pub mod Written
