pub mod Places
pub mod Pawns
pub mod Sources
pub mod Parries
pub mod Steps
pub mod Guards
pub mod Men
