pub mod Tables
pub mod Closing
pub mod Values
pub mod Bills
pub mod Excluding
pub mod Highest
pub mod Halves
pub mod Remembering
