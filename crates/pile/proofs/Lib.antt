pub mod Ordering
pub mod Uplinks
pub mod Deciding
