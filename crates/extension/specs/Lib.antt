pub mod Extended
pub mod Building
pub mod Faults
pub mod Views
pub mod Ready
