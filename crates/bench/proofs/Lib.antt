pub mod Pairs
pub mod Texts
pub mod Decoding
pub mod Printing
pub mod Keeping
pub mod Feeding
