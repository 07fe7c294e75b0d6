pub mod JudgeLemmas
pub mod NewestLemmas
pub mod PlaceLemmas
