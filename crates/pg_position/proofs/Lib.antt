mod Common
pub mod PatternTests
pub mod TableLemmas
pub mod LineLemmas
pub mod AttackLemmas
pub mod ReachLemmas
pub mod StepLemmas
pub mod ValidLemmas
pub mod ArrayLemmas
pub mod FutureLemmas
pub mod ArraySets
pub mod LegalLemmas
pub mod CastlingLemmas
mod SiftedKings
