mod Common
pub mod OwedLemmas
pub mod FileLemmas
pub mod PriceLemmas
