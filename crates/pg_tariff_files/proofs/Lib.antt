pub mod StatedLemmas
pub mod ReadingLemmas
