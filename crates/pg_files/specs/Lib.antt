pub mod Drafts
pub mod Faults
pub mod Inputs
pub mod Paths
