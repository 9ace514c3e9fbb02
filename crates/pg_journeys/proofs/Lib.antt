mod Common
mod MenLemmas
mod SquareLemmas
mod TableLemmas
mod PawnLemmas
pub mod SpanLemmas
mod CostLemmas
mod EndLemmas
mod RoomLemmas
mod SiftedSets
mod PathsInTwo
mod NarrowedSteps
mod NarrowedPlans
mod NarrowedDeeds
mod SideLemmas
mod DecidingEnds
mod MeasuredLemmas
mod Paying
mod Changing
mod OneMeasure
mod ShownWays
mod Masks
mod Budgets
mod NextRounds
mod DeadColors
mod LastRounds
mod LeastNeeds
mod FirstDead
mod WhoIsReached
pub mod FrontLemmas
mod KnownLemmas
mod AlikeCases
pub mod MemoryLemmas
mod KindLemmas
pub mod StepLemmas
mod BackLemmas
mod PawnParts
mod AheadLemmas
pub mod RestingLemmas
mod RestingPlans
mod RestingShown
mod Lifting
mod SearchLemmas
mod BackSearches
mod RingLemmas
mod AheadSearches
