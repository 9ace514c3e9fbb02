pub mod Walk
pub mod LineReading
