pub mod PawnFilesLaw
pub mod PawnPricesLaw
