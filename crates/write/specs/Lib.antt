pub mod Writing
pub mod Faults
pub mod Laws
