pub mod Extends
pub mod Reasons
pub mod Words
