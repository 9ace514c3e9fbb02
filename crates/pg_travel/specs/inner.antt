pub mod Formulas
pub mod Promoted
pub mod Costs
pub mod Within
pub mod PriceTests
pub mod DistanceRows
pub mod LeastRows
pub mod AfterMove
