mod Common
pub mod GameLemmas
pub mod RowLemmas
mod EntryLemmas
