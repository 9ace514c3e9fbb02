pub mod Entries
pub mod Findings
pub mod Old
pub mod Ruling
pub mod Rows
