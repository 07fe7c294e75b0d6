mod AccessingLemmas
mod CellPlaces
mod DueLemmas
mod EndingLemmas
mod GoingLemmas
mod HistoryLemmas
mod HoldingLemmas
mod Kept
mod MakingLemmas
pub mod NoControlLemmas
mod OpeningLemmas
mod OutcomeLemmas
pub mod People
pub mod RetryLemmas
mod ServiceLemmas
mod TogetherLemmas
mod UsingLemmas
mod WaitingLemmas
