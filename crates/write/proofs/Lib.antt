pub mod Checking
pub mod Fitting
pub mod ReadingBack
pub mod Plain
pub mod Rewriting
pub mod Putting
pub mod Planning
pub mod Behind
