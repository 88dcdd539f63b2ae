pub mod Lines
pub mod Tests
pub mod Replies
pub mod Texts
pub mod Inputs
pub mod Sessions
