pub mod Moves
pub mod Targets
pub mod Left
pub mod Counts
pub mod inner
