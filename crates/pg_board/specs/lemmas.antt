pub mod Codes
pub mod Equalities
pub mod Placements
pub mod Sums
pub mod Tallies
pub mod Decisions
pub mod Kinds
