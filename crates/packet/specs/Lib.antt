-- The definitions of the packet, each built on those before it.
pub mod Chains
pub mod Containers
pub mod Faults
pub mod Walks
pub mod Views
pub mod Laws
