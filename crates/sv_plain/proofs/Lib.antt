pub mod SameLemmas
pub mod ScanLemmas
pub mod ToldLemmas
pub mod WorkLemmas
