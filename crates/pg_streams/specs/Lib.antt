pub mod Amounts
pub mod Buffer
pub mod Ending
pub mod Room
