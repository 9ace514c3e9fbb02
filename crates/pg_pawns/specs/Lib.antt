pub mod PawnFiles
pub mod Decided
pub mod PawnPrices
pub mod PricesDecided
pub mod lemmas
pub mod inner
