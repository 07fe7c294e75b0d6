pub mod Ended
pub mod Errands
pub mod PlainSession
pub mod Receipts
pub mod Standing
pub mod Transcripts
pub mod Wants
