pub mod Assignments
pub mod Search
pub mod Dual
pub mod Pinned
pub mod Handing
pub mod Totals
pub mod Ways
