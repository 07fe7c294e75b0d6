mod Ascending
mod Entries
mod Members
mod Names
pub mod PlaceLemmas
mod Streams
