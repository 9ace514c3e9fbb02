mod Common
pub mod BoardLemmas
pub mod SetLemmas
mod MovedSets
