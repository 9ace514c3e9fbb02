mod Common
pub mod TallyLemmas
pub mod FirstLemmas
pub mod SumLemmas
pub mod TakingTold
