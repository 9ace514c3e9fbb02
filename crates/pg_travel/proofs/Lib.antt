mod Common
pub mod Skips
pub mod Nearness
pub mod PawnRows
pub mod PromotedRows
pub mod Within
pub mod TakenSets
pub mod PriceLemmas
pub mod RowTables
pub mod SourceLemmas
pub mod LeastRows
pub mod MakingRows
pub mod FurtherRows
pub mod Sides
pub mod CastledRows
pub mod AfterMove
