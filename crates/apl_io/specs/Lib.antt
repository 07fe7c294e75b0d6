pub mod Clock
pub mod Content
pub mod Faults
pub mod Kept
pub mod Memory
pub mod Replies
pub mod Whole
