pub mod Castling
pub mod Rays
pub mod Lines
