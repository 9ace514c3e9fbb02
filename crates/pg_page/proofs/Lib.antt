mod Common
mod HeadLemmas
mod LetterLemmas
mod PageLemmas
