mod Common
pub mod MoveLineLemmas
pub mod CountLemmas
pub mod OutcomeLemmas
pub mod PlyLemmas
pub mod ItemLemmas
pub mod ReportLemmas
pub mod UpgradeLemmas
pub mod BoardTextLemmas
