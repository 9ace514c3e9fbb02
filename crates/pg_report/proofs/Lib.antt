mod Common
pub mod RunLemmas
pub mod ShortestLemmas
pub mod ShowLemmas
pub mod SideLemmas
pub mod WithinLemmas
