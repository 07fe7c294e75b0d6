mod Examples
mod Factorials
pub mod MemoryLemmas
mod Powers
pub mod Quotients
mod Reports
mod Residues
mod Ways
