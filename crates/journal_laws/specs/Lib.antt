pub mod JournalLaws
