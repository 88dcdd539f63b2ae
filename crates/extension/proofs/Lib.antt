pub mod Listing
pub mod Judged
pub mod Growing
pub mod Sound
