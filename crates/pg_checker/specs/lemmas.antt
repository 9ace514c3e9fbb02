pub mod Equalities
pub mod Futures
