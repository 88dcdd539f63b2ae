-- The lemmas of the packet; Containers has those for the users of the crate.
pub mod Packets
pub mod Headers
pub mod Chains
pub mod Walks
pub mod Only
pub mod Containers
pub mod Layouts
