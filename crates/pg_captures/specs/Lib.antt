pub mod Lists
pub mod Counting
pub mod Owed
pub mod Decided
pub mod Taking
pub mod FreeSteps
pub mod PriceLists
pub mod lemmas
