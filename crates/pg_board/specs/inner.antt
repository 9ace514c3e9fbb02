pub mod Sets
pub mod Packed
