pub mod Answers
pub mod Octets
pub mod Words
