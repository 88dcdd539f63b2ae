pub mod Asking
pub mod Numbers
pub mod Bits
pub mod Writing
