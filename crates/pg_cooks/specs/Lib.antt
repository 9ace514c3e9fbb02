pub mod Standing
pub mod Unsound
pub mod Known
pub mod Parting
pub mod Cooks
