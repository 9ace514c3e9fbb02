mod Common
pub mod CommandLemmas
pub mod EndLemmas
pub mod JudgeLemmas
pub mod KnowingLemmas
pub mod PgnLemmas
pub mod ShowLemmas
pub mod SolveLemmas
pub mod StatusLemmas
pub mod WordLemmas
pub mod WrittenLemmas
