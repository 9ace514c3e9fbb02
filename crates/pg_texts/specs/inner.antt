pub mod Plies
pub mod Copying
