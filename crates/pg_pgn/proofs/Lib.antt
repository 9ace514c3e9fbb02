mod Common
pub mod TokenLemmas
pub mod ReadingLemmas
pub mod FaultLemmas
pub mod LegalLemmas
mod EndLemmas
mod ProblemLemmas
pub mod WritingLemmas
pub mod SanBytes
pub mod RoundLemmas
pub mod RoundTexts
pub mod OneLemmas
pub mod ApartLemmas
