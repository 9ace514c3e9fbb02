mod Common
pub mod CookLemmas
mod FoundLemmas
mod KnownLemmas
mod PartingLemmas
mod TextLemmas
