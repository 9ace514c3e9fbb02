mod Common
pub mod MoveLemmas
pub mod SourceLemmas
pub mod WalkLemmas
pub mod RivalLemmas
pub mod PlainTexts
pub mod CoreLemmas
pub mod EndLemmas
pub mod SpellLemmas
pub mod LawLemmas
pub mod FoundLemmas
pub mod TextFoundLemmas
pub mod OneTextLemmas
pub mod GameLemmas
mod SharedLemmas
pub mod OrderLemmas
pub mod CompareLemmas
pub mod PlaceLemmas
pub mod LineLemmas
pub mod WordReadingLemmas
pub mod ListingLemmas
pub mod OneAnswerLemmas
mod KnownLemmas
mod WrittenLemmas
