pub mod HoldLemmas
pub mod JournalLemmas
