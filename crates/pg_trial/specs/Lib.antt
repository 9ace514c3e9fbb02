pub mod MenTest
pub mod Codes
pub mod Certificates
