mod Common
pub mod Known
pub mod Numbers
pub mod Grammars
pub mod Pieces
pub mod ListTexts
pub mod PricedTexts
pub mod PriceLoops
pub mod WriteLemmas
pub mod RecordLaws
pub mod PricedLemmas
pub mod HeaderLemmas
pub mod HeaderLaws
pub mod GrowingLemmas
