pub mod Men
pub mod Misfits
pub mod Places
