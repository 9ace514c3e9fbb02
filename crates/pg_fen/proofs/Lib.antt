mod Common
pub mod CharLemmas
pub mod CountLemmas
pub mod Decimals
pub mod DetailLemmas
pub mod DiagramLemmas
pub mod Cutting
pub mod GrammarLemmas
pub mod LengthLemmas
pub mod PackingLemmas
pub mod RankLemmas
pub mod SquareLemmas
pub mod SymbolLemmas
pub mod WritingLemmas
pub mod WordLemmas
pub mod GameLemmas
